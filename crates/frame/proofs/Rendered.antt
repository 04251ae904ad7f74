-- A frame as the parts that are put one after the other: its head, the identifier and the flags byte, if it is shown.
use Rattle.std.specs.Prelude.{Option, None, Some}
use Prim.Native.Nat.{ℕ, ◌+◌}
use mathlib.Core.Path.{◌≡◌, refl}
use mathlib.Core.Bool.{Bool, cond}
use mathlib.Core.List.{List, [], ◌∷◌, ◌++◌, append-nil}
use lib.ListN.{length, take, drop, length-append}
use Rattle.laws.proofs.Copied.{copied_next}
use Rattle.laws.specs.Answer.{Wrote}
use Rattle.frame.specs.Frame.{length_byte, rendered}
use Rattle.laws.proofs.Answered.{wrote}

abbrev pub head_of : Option ℕ → Bool → List ℕ
head_of flags on = 0x02 ∷ 0x01 ∷ 0x06 ∷ length_byte 20 flags ∷ 0x16 ∷ 0xAA ∷ 0xFE ∷ cond on 0x41 0x40 ∷ []

module _ (id : List ℕ) (on : Bool) (sized : length id ≡ 20) (before one two : List ℕ) where
  two_parts : (flags : Option ℕ) → one ≡ take 0 before ++ (head_of flags on ++ drop (0 + 8) before)
      → two ≡ take 8 one ++ (id ++ drop (8 + length id) one) → two ≡ (head_of flags on ++ id) ++ drop 28 before
  two_parts flags e f =
      let first = copied_next before [] (head_of flags on) before one 0 refl refl e in
      rw sized at (copied_next before (head_of flags on) id one two 8 refl first f)

  pub left_out : one ≡ take 0 before ++ (head_of None on ++ drop (0 + 8) before)
      → two ≡ take 8 one ++ (id ++ drop (8 + length id) one) → Wrote (rendered 20 id on None) 28 before two
  unfolding rendered
  left_out e f =
      wrote {answer = rendered 20 id on None} (rw (append-nil id, sized)) (rw (append-nil id) (two_parts None e f))

  pub with_flags : (byte : ℕ) (three : List ℕ) → one ≡ take 0 before ++ (head_of (Some byte) on ++ drop (0 + 8) before)
      → two ≡ take 8 one ++ (id ++ drop (8 + length id) one) → three ≡ take 28 two ++ ((byte ∷ []) ++ drop (28 + 1) two)
      → Wrote (rendered 20 id on (Some byte)) 29 before three
  unfolding rendered
  with_flags byte three e f g =
      wrote {answer = rendered 20 id on (Some byte)} (rw (length-append, sized))
      (copied_next before (head_of (Some byte) on ++ id) (byte ∷ []) two three 28 (rw sized) (two_parts (Some byte) e f) g)
