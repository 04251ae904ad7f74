-- The place of a wrong byte is at most the length of a frame with its flags byte.
use Prim.Native.Nat.{ℕ, ◌+◌, ◌≤◌}
use mathlib.Core.Path.{◌≡◌}
use mathlib.Core.Logic.{◌⊎◌, inl, inr}
use mathlib.Core.Bool.{Bool, true, false, cond}
use mathlib.Core.List.{List}
use native.Mathlib.Omega.{arith}
use Rattle.laws.specs.Bytes.{same_bytes}
use Rattle.laws.proofs.Flags.{true_or_false}
use Rattle.frame_reader.specs.Reader.{reads, refused, says_flags, claimed, claimed_frame, first_wrong, read_frame}
use Rattle.frame_reader.proofs.Common.{within_right}
use Rattle.frame_reader.proofs.Claims.{length_flagged, length_bare}

module _ (size : ℕ) (text : List ℕ) where
  wrong_small : first_wrong size text ≤ 9 + size
  unfolding first_wrong
  wrong_small = go (true_or_false (says_flags size text))
    where
      go : (says_flags size text ≡ true) ⊎ (says_flags size text ≡ false) → first_wrong size text ≤ 9 + size
      go (inl s) = omega (arith, length_flagged size text s, within_right text (claimed_frame size text))
      go (inr s) = omega (arith, length_bare size text s, within_right text (claimed_frame size text))

  pub place_small : (number place : ℕ) → read_frame size text ≡ refused number place → place ≤ 9 + size
  unfolding read_frame
  place_small number place e = go (same_bytes text (claimed_frame size text)) e
    where
      go : (s : Bool) → cond s (reads (claimed size text)) (refused 8 (first_wrong size text)) ≡ refused number place → place ≤ 9 + size
      go true q = let z : ◌≡◌ {A = ℕ} 0 1 = cc in absurd (omega arith)
      go false q = let same : first_wrong size text ≡ place = cc in omega (arith, wrong_small)
