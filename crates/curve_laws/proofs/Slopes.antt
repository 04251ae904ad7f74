-- The slopes of SEC 1's rules 4 and 5 as products: the chord's by the difference in x, the tangent's by 2 y.
use mathlib.Core.Path.{◌≡◌, sym}
use Prim.Native.Nat.{ℕ, ◌<◌}
use native.Mathlib.Omega.{arith}
use Rattle.curve_laws.specs.Modulo.{plus, times, minus}
use Rattle.curve_laws.specs.Points.{chord, tangent}
use Rattle.curve_laws.specs.Valid.{Prime}
use Rattle.curve_laws.proofs.Modular.{Same, equal_below}
use Rattle.curve_laws.proofs.Modulo.{none_minus}
use Rattle.curve_laws.proofs.Field.{NonZero, positive, over_times, times_nonzero, below_nonzero}

module _ {p : ℕ} (P : Prime p) where
  -- coordinates below p that differ have a difference
  pub distinct : {x x' : ℕ} → x < p → x' < p → (x ≡ x' → ⊥) → NonZero p (minus p x' x)
  distinct l l' n z = n (sym (equal_below (none_minus (positive P) z) l' l))

  pub chord_slope : (x y x' y' : ℕ) → NonZero p (minus p x' x) → Same p (times p (chord p x y x' y') (minus p x' x)) (minus p y' y)
  unfolding chord
  chord_slope x y x' y' some = over_times P (minus p y' y) (minus p x' x) some

  pub tangent_slope : 2 < p → (a x y : ℕ) → NonZero p y
      → Same p (times p (tangent p a x y) (times p 2 y)) (plus p (times p 3 (times p x x)) a)
  unfolding tangent
  tangent_slope odd a x y some =
      over_times P (plus p (times p 3 (times p x x)) a) (times p 2 y) (times_nonzero P (below_nonzero (omega arith) odd) some)
