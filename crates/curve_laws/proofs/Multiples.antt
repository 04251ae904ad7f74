-- Multiples of a point G of a curve: they are on the curve, r + s times G is the sum of both, and so the multiple by r comes from that by
-- r / 2: doubled, and G added where r is odd.
use mathlib.Core.Path.{◌≡◌, refl, ap, ◌∙◌}
use mathlib.Core.Bool.{Bool, true, false, cond}
use Prim.Native.Nat.{ℕ, zero, suc, ◌+◌, ◌/◌, ◌%◌, ◌<◌}
use native.Mathlib.Omega.{arith}
use native.Mathlib.Nat.{add-zero, add-suc}
use lib.Dec.{eqb}
use borrow.Author.Tests.{eqb-true, eqb-false, eq-eqb}
use Rattle.curve_laws.specs.Points.{Point, infinity, at, OnCurve, discriminant, double, add, total}
use Rattle.curve_laws.specs.Valid.{Prime}
use Rattle.curve_laws.proofs.Field.{NonZero}
use Rattle.curve_laws.proofs.Sums.{add_right, add_on}
use Rattle.curve_laws.proofs.Group.{add_assoc}

pub add_self : (p a : ℕ) (Q : Point) → add p a Q Q ≡ double p a Q
unfolding add double
add_self p a infinity = refl
add_self p a (at x y) = rw (eq-eqb x x refl, eq-eqb y y refl)

pub total_zero : (p a : ℕ) (Q : Point) → total p a 0 Q ≡ infinity
unfolding total
total_zero p a Q = refl

pub total_suc : (p a r : ℕ) (Q : Point) → total p a (suc r) Q ≡ add p a (total p a r Q) Q
unfolding total
total_suc p a r Q = refl

module _ {p : ℕ} (P : Prime p) (odd : 2 < p) (a b : ℕ) (smooth : NonZero p (discriminant p a b)) (G : Point) (on : OnCurve p a b G) where
  pub total_on : (r : ℕ) → OnCurve p a b (total p a r G)
  unfolding total
  total_on zero = tt
  total_on (suc r) = add_on P odd a b (total p a r G) G (total_on r) on

  pub total_sum : (r s : ℕ) → total p a (r + s) G ≡ add p a (total p a r G) (total p a s G)
  total_sum r zero = rw (add-zero, total_zero, add_right)
  total_sum r (suc s) =
      rw (add-suc, total_suc p a (r + s) G, total_suc p a s G, total_sum r s) (add_assoc P odd a b smooth (total p a r G) (total p a s G) G (total_on r) (total_on s) on)

  pub total_half : (r : ℕ) → total p a r G
      ≡ cond (eqb (r % 2) 0) (double p a (total p a (r / 2) G)) (add p a (double p a (total p a (r / 2) G)) G)
  total_half r = go (eqb (r % 2) 0) refl
    where
      twice : total p a (r / 2 + r / 2) G ≡ double p a (total p a (r / 2) G)
      twice = total_sum (r / 2) (r / 2) ∙ add_self p a (total p a (r / 2) G)

      go : (t : Bool) → eqb (r % 2) 0 ≡ t
          → total p a r G ≡ cond t (double p a (total p a (r / 2) G)) (add p a (double p a (total p a (r / 2) G)) G)
      go true e =
          let even : r ≡ r / 2 + r / 2 = omega (arith, eqb-true (r % 2) 0 e) in
          ap (λ (n : ℕ). total p a n G) even ∙ twice
      go false e =
          let one : r ≡ suc (r / 2 + r / 2) = uneven (eqb-false (r % 2) 0 e) in
          ap (λ (n : ℕ). total p a n G) one ∙ total_suc p a (r / 2 + r / 2) G ∙ ap (λ (Q : Point). add p a Q G) twice
        where
          uneven : (r % 2 ≡ 0 → ⊥) → r ≡ suc (r / 2 + r / 2)
          uneven n = omega arith
