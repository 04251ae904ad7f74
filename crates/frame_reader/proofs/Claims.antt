-- Laws of the frame that a text claims: how long it is, what stands in its head, and that behind the head it has the text's own bytes.
use Rattle.std.specs.Prelude.{Option, None, Some}
use Prim.Native.Nat.{ℕ, ◌+◌, ◌≤◌, ◌<◌}
use mathlib.Core.Path.{◌≡◌, sym, ◌∙◌}
use mathlib.Core.Bool.{Bool, true, false, cond}
use mathlib.Core.List.{List, [], ◌∷◌, ◌++◌}
use native.Mathlib.Omega.{arith}
use native.Mathlib.Decide.{dec_lt}
use lib.ListN.{length, get_or, take, drop, replicate, length-append, length-drop, length-replicate, get_or-append}
use lib.Seq.{length-take-le, get_or-take, get_or-drop, get_or_at}
use Rattle.frame.specs.Frame.{rendered, flags_bytes}
use Rattle.frame_reader.specs.Reader.{says_flags, claimed, claimed_frame, first_wrong}
use Rattle.frame_reader.proofs.Common.{within_left}

-- the identifier's room, filled with zeros where the text ends before it
abbrev filled : ℕ → List ℕ → List ℕ
filled size d = take size (d ++ replicate size 0)

pub length_filled : (size : ℕ) (d : List ℕ) → length (filled size d) ≡ size
length_filled size d =
    length-take-le size (d ++ replicate size 0) (omega (arith, length-append d (replicate size 0), length-replicate {A = ℕ} size 0))

filled_at : (size : ℕ) (d : List ℕ) (k : ℕ) → k < size → k < length d → get_or (filled size d) k 0 ≡ get_or d k 0
filled_at size d k h l = get_or-take size (d ++ replicate size 0) k 0 h ∙ get_or-append d (replicate size 0) 0 k l

-- what stands behind the head, with a flags byte or without
abbrev behind : ℕ → List ℕ → Option ℕ → List ℕ
behind size d flags = filled size d ++ flags_bytes flags

behind_at : (size : ℕ) (d : List ℕ) (s : Bool) (k : ℕ) → k < length d
    → k < length (behind size d (cond s (Some (get_or d size 0)) None))
    → get_or d k 0 ≡ get_or (behind size d (cond s (Some (get_or d size 0)) None)) k 0
behind_at size d s k l h = go (dec_lt k size) s h
  where
    go : Dec (k < size) → (s : Bool) → k < length (behind size d (cond s (Some (get_or d size 0)) None))
        → get_or d k 0 ≡ get_or (behind size d (cond s (Some (get_or d size 0)) None)) k 0
    go (yes p) s h =
        sym (get_or-append (filled size d) _ 0 k (omega (arith, length_filled size d)) ∙ filled_at size d k p l)
    go (no q) true h =
        let e : k ≡ size = omega (arith, length-append (filled size d) (get_or d size 0 ∷ []), length_filled size d) in
        rw e (sym (get_or_at (filled size d) (get_or d size 0) [] 0 size (length_filled size d)))
    go (no q) false h =
        absurd (omega (arith, length-append (filled size d) [], length_filled size d))

module _ (size : ℕ) (text : List ℕ) where
  pub wrong_within : first_wrong size text ≤ length text
  unfolding first_wrong
  wrong_within = within_left text (claimed_frame size text)

  pub length_flagged : says_flags size text ≡ true → length (claimed_frame size text) ≡ 9 + size
  unfolding rendered claimed
  length_flagged e =
      rw e (omega (arith, length-append (filled size (drop 8 text)) (get_or text (8 + size) 0 ∷ []), length_filled size (drop 8 text)))

  pub length_bare : says_flags size text ≡ false → length (claimed_frame size text) ≡ 8 + size
  unfolding rendered claimed
  length_bare e = rw e (omega (arith, length-append (filled size (drop 8 text)) [], length_filled size (drop 8 text)))

  pub behind_head : (k : ℕ) → 8 + k < length text → 8 + k < length (claimed_frame size text)
      → get_or text (8 + k) 0 ≡ get_or (claimed_frame size text) (8 + k) 0
  unfolding rendered claimed
  behind_head k l h =
      sym (get_or-drop 8 text k 0)
      ∙ rw (← get_or-drop 8 text size 0)
      (behind_at size (drop 8 text) (says_flags size text) k (omega (arith, length-drop 8 text)) (omega (arith, rw (← get_or-drop 8 text size 0) at h)))
      ∙ get_or-drop 8 (claimed_frame size text) k 0
