-- Jacobian coordinates: (X, Y, Z) stands for the point (X / Z², Y / Z³), and for infinity where Z = 0. Doubling for a = p - 3, addition of a
-- point in affine coordinates, the way back to x, and the binary method over the bits of r from the top: what code computes. The laws that
-- join them to SEC 1's rules are in Doubling, Adding and Binary.
use Prim.Native.Nat.{ℕ, zero, suc, ◌/◌, ◌%◌, ◌<◌}
use mathlib.Core.Path.{◌≡◌}
use mathlib.Core.Bool.{cond, ◌&&◌}
use lib.Dec.{eqb}
use Rattle.curve_laws.specs.Modulo.{plus, times, minus, over}
use Rattle.curve_laws.specs.Points.{Point, infinity, at}
use Rattle.curve_laws.proofs.Modular.{Same}
use Rattle.curve_laws.proofs.Field.{NonZero}

pub record Triple : Type 0 where
  pub X : ℕ
  pub Y : ℕ
  pub Z : ℕ

abbrev pub triple : ℕ → ℕ → ℕ → Triple
triple x y z = record { X = x; Y = y; Z = z }

-- the coordinates are elements of the field
abbrev pub Below : ℕ → Point → Type 0
Below p infinity = Unit {0}
Below p (at x y) = (x < p) × (y < p)

-- what it stands for; only Z needs to be below p
abbrev pub Shape : ℕ → ℕ → ℕ → ℕ → Point → Type 0
Shape p X Y Z infinity = Z ≡ 0
Shape p X Y Z (at x y) = NonZero p Z × Same p (times p x (times p Z Z)) X × Same p (times p y (times p Z (times p Z Z))) Y

pub record Stands (p : ℕ) (j : Triple) (P : Point) : Type 0 where
  pub below : j.Z < p
  pub shape : Shape p j.X j.Y j.Z P

-- Doubling: M = 3 (X - Z²) (X + Z²), S = 4 X Y²; X' = M² - 2 S, Y' = M (S - X') - 8 Y⁴, Z' = 2 Y Z
unfoldable pub double_m : ℕ → ℕ → ℕ → ℕ
double_m p X Z = times p 3 (times p (minus p X (times p Z Z)) (plus p X (times p Z Z)))

unfoldable pub double_s : ℕ → ℕ → ℕ → ℕ
double_s p X Y = times p 4 (times p X (times p Y Y))

unfoldable pub double_x : ℕ → ℕ → ℕ → ℕ
double_x p M S = minus p (times p M M) (times p 2 S)

unfoldable pub double_z : ℕ → ℕ → ℕ → ℕ
double_z p Y Z = times p 2 (times p Y Z)

-- in doubling and in addition: M (S - X') - W
unfoldable pub last_y : ℕ → ℕ → ℕ → ℕ → ℕ → ℕ
last_y p M S X' W = minus p (times p M (minus p S X')) W

unfoldable pub fourth_y : ℕ → ℕ → ℕ
fourth_y p Y = times p 8 (times p (times p Y Y) (times p Y Y))

unfoldable pub double_with : ℕ → ℕ → ℕ → ℕ → ℕ → ℕ → Triple
double_with p M S X' Y Z = triple X' (last_y p M S X' (fourth_y p Y)) (double_z p Y Z)

unfoldable pub doubled : ℕ → Triple → Triple
doubled p j =
    let M = double_m p j.X j.Z in
    let S = double_s p j.X j.Y in
    double_with p M S (double_x p M S) j.Y j.Z

-- Addition of (x, y): H = x Z² - X, R = y Z³ - Y; X' = R² - H³ - 2 X H², Y' = R (X H² - X') - Y H³, Z' = H Z
unfoldable pub add_h : ℕ → ℕ → ℕ → ℕ → ℕ
add_h p x X Z = minus p (times p x (times p Z Z)) X

unfoldable pub add_r : ℕ → ℕ → ℕ → ℕ → ℕ
add_r p y Y Z = minus p (times p y (times p Z (times p Z Z))) Y

unfoldable pub add_x : ℕ → ℕ → ℕ → ℕ → ℕ
add_x p R H S = minus p (minus p (times p R R) (times p H (times p H H))) (times p 2 S)

unfoldable pub add_with : ℕ → ℕ → ℕ → Triple → Triple
add_with p H R j =
    let S = times p j.X (times p H H) in
    let X' = add_x p R H S in
    triple X' (last_y p R S X' (times p j.Y (times p H (times p H H)))) (times p H j.Z)

unfoldable pub added : ℕ → ℕ → ℕ → Triple → Triple
added p x y j =
    let H = add_h p x j.X j.Z in
    let R = add_r p y j.Y j.Z in
    cond (eqb j.Z 0) (triple x y 1) (cond (eqb H 0 && eqb R 0) (doubled p j) (add_with p H R j))

-- x = X / Z², which is 0 for infinity
unfoldable pub affine_x : ℕ → Triple → ℕ
affine_x p j = over p j.X (times p j.Z j.Z)

-- one bit more, and the top bits of r one after the other
unfoldable pub turn : ℕ → ℕ → ℕ → ℕ → Triple → Triple
turn p x y bit j = cond (eqb bit 0) (doubled p j) (added p x y (doubled p j))

unfoldable pub binary : ℕ → ℕ → ℕ → ℕ → ℕ → Triple
binary p x y zero r = triple 1 1 0
binary p x y (suc bits) r = turn p x y (r % 2) (binary p x y bits (r / 2))
