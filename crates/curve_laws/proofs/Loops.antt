-- What code that goes over bits from the top needs: one turn of the power, one turn of the binary method, and small multiples by sums.
use mathlib.Core.Path.{◌≡◌, refl, sym, ap, ◌∙◌}
use mathlib.Core.Bool.{Bool, true, false, cond}
use Prim.Native.Nat.{ℕ, suc, ◌+◌, ◌*◌, ◌/◌, ◌%◌, ◌^◌, ◌<◌}
use native.Mathlib.Omega.{arith}
use native.Mathlib.Nat.{pow-zero}
use lib.Dec.{eqb}
use lib.Pow.{pow-add, shr-shr}
use borrow.Author.Tests.{eqb-true, eqb-false}
use Rattle.curve_laws.specs.Modulo.{plus, times, power}
use Rattle.curve_laws.proofs.Modular.{Same, same, same_eq, back, ◌then◌, rest_of, sums, products, equal_below}
use Rattle.curve_laws.proofs.Modulo.{plus_same, plus_below, times_same, times_below}
use Rattle.curve_laws.proofs.Powers.{power_one}
use Rattle.curve_laws.proofs.Jacobian.{triple, turn, binary}

-- ---- powers

pub power_none : (p a : ℕ) → power p a 0 ≡ 1 % p
unfolding power
power_none p a = ap (λ (n : ℕ). n % p) (pow-zero a)

-- the power by n from that by n / 2: squared, and times a where n is odd
pub power_half : (p a n : ℕ) → power p a n
    ≡ cond (eqb (n % 2) 0) (times p (power p a (n / 2)) (power p a (n / 2))) (times p (times p (power p a (n / 2)) (power p a (n / 2))) a)
unfolding power times
power_half p a n = go (eqb (n % 2) 0) refl
  where
    s : ℕ
    s = a ^ (n / 2)

    squared : Same p (a ^ (n / 2) % p * (a ^ (n / 2) % p)) (a ^ (n / 2 + n / 2))
    squared = products (rest_of p s) (rest_of p s) then same_eq (sym (pow-add a (n / 2) (n / 2)))

    go : (t : Bool) → eqb (n % 2) 0 ≡ t
        → a ^ n % p ≡ cond t (a ^ (n / 2) % p * (a ^ (n / 2) % p) % p) (a ^ (n / 2) % p * (a ^ (n / 2) % p) % p * a % p)
    go true e =
        let even : n ≡ n / 2 + n / 2 = omega (arith, eqb-true (n % 2) 0 e) in
        (same_eq (ap (λ (k : ℕ). a ^ k) even) then back squared).rest
    go false e =
        let uneven : n ≡ n / 2 + n / 2 + 1 = odd (eqb-false (n % 2) 0 e) in
        (same_eq (ap (λ (k : ℕ). a ^ k) uneven ∙ pow-add a (n / 2 + n / 2) 1)
        then products (back squared then back (rest_of p (a ^ (n / 2) % p * (a ^ (n / 2) % p)))) (same_eq (power_one a))).rest
      where
        odd : (n % 2 ≡ 0 → ⊥) → n ≡ n / 2 + n / 2 + 1
        odd q = omega arith

-- ---- the binary method, on r without its m lowest bits

pub binary_start : (p x y r : ℕ) → binary p x y 0 r ≡ triple 1 1 0
unfolding binary
binary_start p x y r = refl

pub binary_next : (p x y i r m : ℕ) → binary p x y (suc i) (r / 2 ^ m) ≡ turn p x y (r / 2 ^ m % 2) (binary p x y i (r / 2 ^ (m + 1)))
unfolding binary
binary_next p x y i r m = ap (λ (k : ℕ). turn p x y (r / 2 ^ m % 2) (binary p x y i k)) (shr-shr r m 1)

-- ---- small multiples by sums

module _ {p : ℕ} (h : 0 < p) (a : ℕ) where
  pub twice : plus p a a ≡ times p 2 a
  twice = equal_below (plus_same p a a then same_eq (omega arith) then back (times_same p 2 a)) (plus_below h a a) (times_below h 2 a)

  pub once_more : (k : ℕ) → plus p (times p k a) a ≡ times p (k + 1) a
  once_more k =
      equal_below
      (plus_same p (times p k a) a then sums (times_same p k a) (same a) then same_eq (omega arith) then back (times_same p (k + 1) a))
      (plus_below h (times p k a) a) (times_below h (k + 1) a)

  pub multiples : (j k : ℕ) → plus p (times p j a) (times p k a) ≡ times p (j + k) a
  multiples j k =
      equal_below
      (plus_same p (times p j a) (times p k a)
      then sums (times_same p j a) (times_same p k a)
      then same_eq (omega arith)
      then back (times_same p (j + k) a))
      (plus_below h (times p j a) (times p k a)) (times_below h (j + k) a)
