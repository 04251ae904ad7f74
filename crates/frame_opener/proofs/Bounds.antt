-- The place of a wrong byte, with r too, is at most the length of a frame with its flags byte.
use Rattle.std.specs.Prelude.{Option, None, Some}
use Prim.Native.Nat.{ℕ, ◌+◌, ◌≤◌}
use mathlib.Core.Path.{◌≡◌, refl}
use mathlib.Core.Bool.{Bool, true, false, cond}
use mathlib.Core.List.{List}
use native.Mathlib.Omega.{arith}
use lib.Dec.{eqb}
use lib.ListN.{length}
use Rattle.frame_reader.specs.Reader.{Parts, Reading, reads, refused, read_frame}
use Rattle.frame_reader.proofs.Bounds.{place_small}
use Rattle.frame_opener.specs.Opener.{Opened, read_frame_with_r, with_r, opened_by, unmasked, flags_right, battery_level}

module _ (size : ℕ) (text : List ℕ) where
  pub place_small_with_r : (r : List ℕ) (number place : ℕ) → read_frame_with_r size r text ≡ refused number place → place ≤ 9 + size
  unfolding read_frame_with_r opened_by
  place_small_with_r r number place e = go (read_frame size text) refl e
    where
      opened : (p : Parts) (flags : Option ℕ) → opened_by r size p flags ≡ refused number place → place ≤ 9 + size
      opened p None q = let z : ◌≡◌ {A = ℕ} 0 1 = cc in absurd (omega arith)
      opened p (Some b) q = shown (flags_right p.protected (unmasked r b)) q
        where
          shown : (s : Bool)
              → cond {A = Reading Opened} s (reads (record { parts = p; battery = battery_level (unmasked r b) })) (refused 8 (8 + size)) ≡ refused number place
              → place ≤ 9 + size
          shown true q = let z : ◌≡◌ {A = ℕ} 0 1 = cc in absurd (omega arith)
          shown false q = let same : 8 + size ≡ place = cc in omega arith

      sized : (p : Parts) (s : Bool) → cond s (opened_by r size p p.flags) (refused 1 0) ≡ refused number place → place ≤ 9 + size
      sized p true q = opened p p.flags q
      sized p false q = let same : 0 ≡ place = cc in omega arith

      go : (x : Reading Parts) → read_frame size text ≡ x → with_r r size x ≡ refused number place → place ≤ 9 + size
      go (reads p) f q = sized p (eqb (length r) size) q
      go (refused n i) f q = let same : i ≡ place = cc in omega (arith, place_small size text n i f)
