-- What SEC 1 section 3.1.1.2.1 asks of a curve's parameters, by the numbers of its steps, as far as sums of points rest on it.
use Rattle.std.specs.Prelude.{ℕ, ◌%◌, ◌<◌, ◌≡◌, ◌≢◌}
use Rattle.curve_laws.specs.Points.{infinity, OnCurve, discriminant}
use Rattle.curve_laws.specs.Curves.{Curve, times_g}

-- more than 1, and no divisor between
pub record Prime (p : ℕ) : Type 0 where
  pub above_one : 1 < p
  pub indivisible : (d : ℕ) → 1 < d → d < p → p % d ≢ 0

pub record Valid (c : Curve) : Type 0 where
  -- 1. p is an odd prime
  pub prime : Prime c.p
  pub odd : 2 < c.p
  -- 2. a, b and the coordinates of G are elements of the field. 4. G is on the curve
  pub a_below : c.a < c.p
  pub b_below : c.b < c.p
  pub base_finite : c.G ≢ infinity
  pub base : OnCurve c.p c.a c.b c.G
  -- 3. 4 a³ + 27 b² is not 0
  pub smooth : discriminant c.p c.a c.b ≢ 0
  -- 5. n is prime. 7. n times G is infinity
  pub order_prime : Prime c.n
  pub order : times_g c c.n ≡ infinity
