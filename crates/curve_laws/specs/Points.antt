-- The points of an elliptic curve y² = x³ + a x + b over the field of a prime p, and their addition by the five rules of SEC 1 section
-- 2.2.1. Addition reads p and a; b only says which points are on the curve.
use Rattle.std.specs.Prelude.{ℕ, zero, suc, ◌<◌, ◌≡◌, cond, eqb}
use Rattle.curve_laws.specs.Modulo.{plus, times, minus, over}

pub data Point : Type 0 where
  infinity : Point
  at : ℕ → ℕ → Point

-- y² = x³ + a x + b, for coordinates that are elements of the field
unfoldable pub equation : ℕ → ℕ → ℕ → ℕ → ℕ → Type 0
equation p a b x y = times p y y ≡ plus p (plus p (times p x (times p x x)) (times p a x)) b

-- the points of the curve: infinity, and the solutions of its equation
abbrev pub OnCurve : ℕ → ℕ → ℕ → Point → Type 0
OnCurve p a b infinity = Unit {0}
OnCurve p a b (at x y) = (x < p) × (y < p) × equation p a b x y

-- 4 a³ + 27 b², which is not 0: the curve has no singular point
unfoldable pub discriminant : ℕ → ℕ → ℕ → ℕ
discriminant p a b = plus p (times p 4 (times p a (times p a a))) (times p 27 (times p b b))

-- the coordinates; those of infinity count as 0
unfoldable pub x_of : Point → ℕ
x_of infinity = 0
x_of (at x y) = x

unfoldable pub y_of : Point → ℕ
y_of infinity = 0
y_of (at x y) = y

-- Rules 4 and 5, for the line with slope l through (x₁, y₁) and a point at x₂:
-- x₃ = l² - x₁ - x₂, y₃ = l (x₁ - x₃) - y₁
unfoldable pub third_x : ℕ → ℕ → ℕ → ℕ → ℕ
third_x p l x₁ x₂ = minus p (minus p (times p l l) x₁) x₂

unfoldable pub third_y : ℕ → ℕ → ℕ → ℕ → ℕ → ℕ
third_y p l x₁ y₁ x₃ = minus p (times p l (minus p x₁ x₃)) y₁

unfoldable pub third : ℕ → ℕ → ℕ → ℕ → ℕ → Point
third p l x₁ y₁ x₂ = at (third_x p l x₁ x₂) (third_y p l x₁ y₁ (third_x p l x₁ x₂))

-- Rule 4: the slope (y₂ - y₁) / (x₂ - x₁) of the line through two points
unfoldable pub chord : ℕ → ℕ → ℕ → ℕ → ℕ → ℕ
chord p x₁ y₁ x₂ y₂ = over p (minus p y₂ y₁) (minus p x₂ x₁)

-- Rule 5: the slope (3 x² + a) / 2 y of the tangent
unfoldable pub tangent : ℕ → ℕ → ℕ → ℕ → ℕ
tangent p a x y = over p (plus p (times p 3 (times p x x)) a) (times p 2 y)

-- A point added to itself: rule 5, or rule 3 where y = 0, so that the point is its own negative
unfoldable pub double : ℕ → ℕ → Point → Point
double p a infinity = infinity
double p a (at x y) = cond (eqb y 0) infinity (third p (tangent p a x y) x y x)

-- Rules 1 and 2: infinity is neutral. Of two points of the curve with the same x and another y, one is the other's negative: rule 3
unfoldable pub add : ℕ → ℕ → Point → Point → Point
add p a infinity Q = Q
add p a (at x₁ y₁) infinity = at x₁ y₁
add p a (at x₁ y₁) (at x₂ y₂) =
    cond (eqb x₁ x₂) (cond (eqb y₁ y₂) (double p a (at x₁ y₁)) infinity) (third p (chord p x₁ y₁ x₂ y₂) x₁ y₁ x₂)

-- P added r times, P + P + .. + P (SEC 1 section 2.2.1: scalar multiplication)
unfoldable pub total : ℕ → ℕ → ℕ → Point → Point
total p a zero P = infinity
total p a (suc r) P = add p a (total p a r P) P
