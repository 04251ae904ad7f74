-- One more word of a key schedule mixed back, in its place.
use mathlib.Core.Path.{◌≡◌, refl, ◌∙◌}
use mathlib.Core.List.{List}
use Prim.Native.Nat.{ℕ, ◌+◌, ◌≤◌, ◌<◌}
use native.Mathlib.Omega.{arith}
use native.Mathlib.Decide.{ℕ_discrete}
use lib.ListN.{length, get_or, set, length-set}
use lib.Seq.{get_or-set_same, get_or-set_other}
use Rattle.columns.specs.Columns.{mixed_word}
use Rattle.inverse_keys.specs.Keys.{UnmixedTo}

pub none : (w : List ℕ) → UnmixedTo 4 w w
none w =
    record {
      long = refl;
      first = λ i h. refl;
      inner = λ i l h. absurd (omega arith);
      last = λ i h. refl;
    }

pub one_more : (m : ℕ) (w keys : List ℕ) (x : ℕ) → 4 ≤ m → m < length keys → UnmixedTo m w keys → x ≡ mixed_word 0x0e 0x09 0x0d 0x0b (get_or keys m 0)
    → UnmixedTo (m + 1) w (set keys m x)
one_more m w keys x l h u e =
    record {
      long = length-set keys m x ∙ u.long;
      first = λ i p. get_or-set_other keys m i x 0 (λ q. omega arith) ∙ u.first i p;
      inner = λ i q p. here i q p (ℕ_discrete i m);
      last = λ i p. get_or-set_other keys m i x 0 (λ q. omega arith) ∙ u.last i (omega arith);
    }
  where
    here : (i : ℕ) → 4 ≤ i → i < m + 1 → Dec (i ≡ m) → get_or (set keys m x) i 0 ≡ mixed_word 0x0e 0x09 0x0d 0x0b (get_or w i 0)
    here i q p (yes s) = rw s (get_or-set_same keys m x 0 h ∙ e ∙ rw (u.last m (omega arith)))
    here i q p (no s) = get_or-set_other keys m i x 0 s ∙ u.inner i q (omega arith)
