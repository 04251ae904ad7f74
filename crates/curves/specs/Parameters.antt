-- What the limbs of a curve's parameters have to be.
use Rattle.std.specs.Prelude.{ℕ, ◌-◌, ◌≤◌, ◌<◌, ◌≡◌, List, length}
use Rattle.limbs.specs.Limbs.{value, Below}

-- The exponent is that of the inverse modulo m, (x, y) is a pair of numbers below m, and the order n is a number above 0
pub record Usable (m e x y n : List ℕ) : Type 0 where
  pub exponent : value e ≡ value m - 2
  pub side : Below x m
  pub height : Below y m
  pub span_narrow : length n ≤ 8
  pub order_some : 0 < value n
