-- Laws of a frame's head: a byte is right, after bytes that are, exactly where it is the one of the frame that the text claims; and what that is
-- at the two places where it varies.
use Rattle.std.specs.Prelude.{None, Some}
use Prim.Native.Nat.{ℕ, ◌+◌, ◌≤◌, ◌<◌}
use mathlib.Core.Path.{◌≡◌, refl, sym, ◌∙◌}
use mathlib.Core.Bool.{Bool, true, false, cond, ◌&&◌, ◌||◌}
use mathlib.Core.List.{List}
use native.Mathlib.Omega.{arith}
use lib.Dec.{eqb, ltb}
use lib.ListN.{length, get_or}
use Rattle.laws.proofs.Flags.{or_false, or_right}
use Rattle.frame.specs.Frame.{rendered, length_byte}
use Rattle.frame_reader.specs.Reader.{says_flags, claimed, claimed_frame, first_wrong}
use Rattle.frame_reader.proofs.Common.{goes_on}

length_byte_lem : (x size b : ℕ) (s : Bool) → s ≡ eqb x (size + 5)
    → (eqb x (size + 4) || s) ≡ eqb x (length_byte size (cond s (Some b) None))
length_byte_lem x size b true e = or_right (eqb x (size + 4)) refl ∙ e
length_byte_lem x size b false e = or_false (eqb x (size + 4))

kind_byte : (x : ℕ) (s k : Bool) → k ≡ eqb x 0x41 → (eqb x 0x40 || (k && s)) ≡ eqb x (cond (s && k) 0x41 0x40)
kind_byte x true true e = or_right (eqb x 0x40) refl ∙ e
kind_byte x true false e = or_false (eqb x 0x40)
kind_byte x false true e = or_false (eqb x 0x40)
kind_byte x false false e = or_false (eqb x 0x40)

module _ (size : ℕ) (text : List ℕ) where
  head_goes_on : (i : ℕ) → i < 8 → i < length text → i ≤ first_wrong size text
      → ltb i (first_wrong size text) ≡ eqb (get_or text i 0) (get_or (claimed_frame size text) i 0)
  unfolding first_wrong rendered
  head_goes_on i h l k = goes_on text (claimed_frame size text) i k l (omega arith)

  -- the same where the place is known, and the byte of the claimed frame
  pub at_place : (place byte : ℕ) {i : ℕ} → i ≡ place → i < 8 → i < length text → i ≤ first_wrong size text
      → get_or (claimed_frame size text) place 0 ≡ byte → eqb (get_or text i 0) byte ≡ ltb i (first_wrong size text)
  at_place place byte {i} e h l k f = sym (rw (← f, ← e) (head_goes_on i h l k))

  pub length_right : (eqb (get_or text 3 0) (size + 4) || says_flags size text) ≡ eqb (get_or text 3 0) (get_or (claimed_frame size text) 3 0)
  unfolding rendered claimed
  length_right = length_byte_lem (get_or text 3 0) size (get_or text (8 + size) 0) (says_flags size text) refl

  pub at_length : {i : ℕ} → i ≡ 3 → i < 8 → i < length text → i ≤ first_wrong size text
      → (eqb (get_or text i 0) (size + 4) || says_flags size text) ≡ ltb i (first_wrong size text)
  at_length {i} e h l k =
      let here : (eqb (get_or text i 0) (size + 4) || says_flags size text) ≡ eqb (get_or text i 0) (get_or (claimed_frame size text) i 0)
      = rw e length_right in
      here ∙ sym (head_goes_on i h l k)

  pub kind_right : (eqb (get_or text 7 0) 0x40 || (eqb (get_or text 7 0) 0x41 && says_flags size text))
      ≡ eqb (get_or text 7 0) (get_or (claimed_frame size text) 7 0)
  unfolding rendered claimed
  kind_right = kind_byte (get_or text 7 0) (says_flags size text) (eqb (get_or text 7 0) 0x41) refl

  pub at_kind : {i : ℕ} → i ≡ 7 → i < 8 → i < length text → i ≤ first_wrong size text
      → (eqb (get_or text i 0) 0x40 || (eqb (get_or text i 0) 0x41 && says_flags size text)) ≡ ltb i (first_wrong size text)
  at_kind {i} e h l k =
      let here : (eqb (get_or text i 0) 0x40 || (eqb (get_or text i 0) 0x41 && says_flags size text))
      ≡ eqb (get_or text i 0) (get_or (claimed_frame size text) i 0)
      = rw e kind_right in
      here ∙ sym (head_goes_on i h l k)

-- the only place of the head that is left
four_on : (i : ℕ) → (i ≡ 0 → ⊥) → (i ≡ 1 → ⊥) → (i ≡ 2 → ⊥) → (i ≡ 3 → ⊥) → 4 ≤ i
four_on i a b c d = omega arith

seven : (i : ℕ) → i < 8 → 4 ≤ i → (i ≡ 4 → ⊥) → (i ≡ 5 → ⊥) → (i ≡ 6 → ⊥) → i ≡ 7
seven i h k a b c = omega arith

pub last_place : (i : ℕ) → i < 8 → (i ≡ 0 → ⊥) → (i ≡ 1 → ⊥) → (i ≡ 2 → ⊥) → (i ≡ 3 → ⊥) → (i ≡ 4 → ⊥) → (i ≡ 5 → ⊥) → (i ≡ 6 → ⊥) → i ≡ 7
last_place i h a b c d e f g = seven i h (four_on i a b c d) e f g
