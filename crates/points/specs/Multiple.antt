-- The multiple of a point in Jacobian coordinates, as SEC 1's repeated addition: on every curve y² = x³ - 3 x + b over the field of a prime p on which (x, y)
-- lies, it stands for (x, y) added r times.
use Rattle.std.specs.Prelude.{◌≡◌, ℕ, ◌^◌, ◌<◌}
use Rattle.curve_laws.specs.Modulo.{plus}
use Rattle.curve_laws.specs.Points.{at, x_of, OnCurve, discriminant, total}
use Rattle.curve_laws.specs.Valid.{Prime}
use Rattle.curve_laws.proofs.Modular.{Same}
use Rattle.curve_laws.proofs.Field.{NonZero}
use Rattle.curve_laws.proofs.Jacobian.{Triple, Stands}

-- a and b are those of such a curve
pub record Through (p x y a b : ℕ) : Type 0 where
  pub prime : Prime p
  pub odd : 2 < p
  pub minus_three : Same p (plus p a 3) 0
  pub smooth : NonZero p (discriminant p a b)
  pub on : OnCurve p a b (at x y)

-- the multiple by a number of so many bits
pub record Multiplies (p x y bits r : ℕ) (j : Triple) : Type 0 where
  pub stands : (a b : ℕ) → Through p x y a b → r < 2 ^ bits → Stands p j (total p a r (at x y))

-- and its x coordinate
pub record SideOf (p x y bits r found : ℕ) : Type 0 where
  pub side : (a b : ℕ) → Through p x y a b → r < 2 ^ bits → found ≡ x_of (total p a r (at x y))
