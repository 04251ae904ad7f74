-- Identities of expressions in plus, minus and times hold modulo every p, by one test that antt computes: the difference of the two
-- sides, as a polynomial with a pair c, d for each coefficient c - d, has c = d throughout. A polynomial is a number, or its part without the
-- first variable and that variable times the rest.
use mathlib.Core.Path.{◌≡◌, sym, ap}
use mathlib.Core.Bool.{Bool, ◌&&◌}
use mathlib.Core.List.{List, [], ◌∷◌}
use Prim.Native.Nat.{ℕ, zero, suc, ◌+◌, ◌-◌, ◌*◌, ◌<◌}
use native.Mathlib.Omega.{arith}
use native.Mathlib.Nat.{mul-zero}
use lib.ListN.{get_or}
use lib.Dec.{T, eqb, eqb→eq}
use Rattle.curve_laws.specs.Modulo.{plus, times, minus}
use Rattle.curve_laws.proofs.Tests.{both}
use Rattle.curve_laws.proofs.Modular.{Same, same, same_eq, back, ◌then◌, multiple_of, sums, products, cancel_sum}
use Rattle.curve_laws.proofs.Modulo.{plus_same, times_same, minus_same, minus_zero, minus_none, none_minus}

-- an expression over variables by their places in a list
pub data Expr : Type 0 where
  var : ℕ → Expr
  num : ℕ → Expr
  ◌⊕◌ : Expr → Expr → Expr
  ◌⊖◌ : Expr → Expr → Expr
  ◌⊗◌ : Expr → Expr → Expr

infixl 60 ◌⊕◌
infixl 60 ◌⊖◌
infixl 70 ◌⊗◌
abbrev pub value : ℕ → List ℕ → Expr → ℕ
value p ρ (var i) = get_or ρ i 0
value p ρ (num k) = k
value p ρ (e ⊕ f) = plus p (value p ρ e) (value p ρ f)
value p ρ (e ⊖ f) = minus p (value p ρ e) (value p ρ f)
value p ρ (e ⊗ f) = times p (value p ρ e) (value p ρ f)

pub data Poly : Type 0 where
  constant : ℕ → ℕ → Poly
  step : Poly → Poly → Poly

-- ---- the operations on polynomials

abbrev add_constant : ℕ → ℕ → Poly → Poly
add_constant c d (constant c' d') = constant (c + c') (d + d')
add_constant c d (step h t) = step (add_constant c d h) t

abbrev add : Poly → Poly → Poly
add (constant c d) Q = add_constant c d Q
add (step h t) (constant c d) = step (add_constant c d h) t
add (step h t) (step h' t') = step (add h h') (add t t')

abbrev negative : Poly → Poly
negative (constant c d) = constant d c
negative (step h t) = step (negative h) (negative t)

-- times c - d; where that is 0 the polynomial goes
abbrev scale_all : ℕ → ℕ → Poly → Poly
scale_all c d (constant c' d') = constant (c * c' + d * d') (c * d' + d * c')
scale_all c d (step h t) = step (scale_all c d h) (scale_all c d t)

abbrev scale : ℕ → ℕ → Poly → Poly
scale zero zero Q = constant 0 0
scale zero (suc d) Q = scale_all zero (suc d) Q
scale (suc c) d Q = scale_all (suc c) d Q

-- f at each coefficient of the first variable
abbrev throughout : (Poly → Poly) → Poly → Poly
throughout f (constant zero zero) = constant 0 0
throughout f (constant zero (suc d)) = step (f (constant zero (suc d))) (constant 0 0)
throughout f (constant (suc c) d) = step (f (constant (suc c) d)) (constant 0 0)
throughout f (step h t) = step (f h) (throughout f t)

abbrev multiply : Poly → Poly → Poly
multiply (constant c d) Q = scale c d Q
multiply (step h t) Q = add (throughout (multiply h) Q) (step (constant 0 0) (multiply t Q))

abbrev variable : ℕ → Poly
variable zero = step (constant 0 0) (constant 1 0)
variable (suc i) = step (variable i) (constant 0 0)

abbrev normal : Expr → Poly
normal (var i) = variable i
normal (num k) = constant k 0
normal (e ⊕ f) = add (normal e) (normal f)
normal (e ⊖ f) = add (normal e) (negative (normal f))
normal (e ⊗ f) = multiply (normal e) (normal f)

abbrev vanishing : Poly → Bool
vanishing (constant c d) = eqb c d
vanishing (step h t) = vanishing h && vanishing t

-- the test: every coefficient is 0
abbrev pub Vanishes : Expr → Type 0
Vanishes e = T (vanishing (normal e))

-- ---- what they stand for

abbrev first : List ℕ → ℕ
first ρ = get_or ρ 0 0

abbrev others : List ℕ → List ℕ
others [] = []
others (x ∷ ρ) = ρ

-- with q for p - 1
worth : ℕ → List ℕ → Poly → ℕ
worth q ρ (constant c d) = c + q * d
worth q ρ (step h t) = worth q (others ρ) h + first ρ * worth q ρ t

module _ (q : ℕ) where
  add_constant_worth : (ρ : List ℕ) (c d : ℕ) (Q : Poly) → worth q ρ (add_constant c d Q) ≡ c + q * d + worth q ρ Q
  unfolding worth
  add_constant_worth ρ c d (constant c' d') = omega arith
  add_constant_worth ρ c d (step h t) = omega (arith, add_constant_worth (others ρ) c d h)

  add_worth : (ρ : List ℕ) (P Q : Poly) → worth q ρ (add P Q) ≡ worth q ρ P + worth q ρ Q
  unfolding worth
  add_worth ρ (constant c d) Q = add_constant_worth ρ c d Q
  add_worth ρ (step h t) (constant c d) = omega (arith, add_constant_worth (others ρ) c d h)
  add_worth ρ (step h t) (step h' t') =
      omega (arith, add_worth (others ρ) h h', ap (λ (n : ℕ). first ρ * n) (add_worth ρ t t'))

  -- q times q is 1
  twice_negative : (x : ℕ) → Same (suc q) (q * (q * x)) x
  twice_negative x =
      let e : q * (q * x) + q * x ≡ q * x * suc q = omega arith in
      let f : x + q * x ≡ x * suc q = omega arith in
      cancel_sum (q * x) (omega arith) (same_eq e then multiple_of (suc q) (q * x) then back (same_eq f then multiple_of (suc q) x))

  negative_worth : (ρ : List ℕ) (Q : Poly) → Same (suc q) (worth q ρ (negative Q)) (q * worth q ρ Q)
  unfolding worth
  negative_worth ρ (constant c d) = sums (back (twice_negative d)) (same (q * c)) then same_eq (omega arith)
  negative_worth ρ (step h t) =
      sums (negative_worth (others ρ) h) (products (same (first ρ)) (negative_worth ρ t)) then same_eq (omega arith)

  scale_all_worth : (ρ : List ℕ) (c d : ℕ) (Q : Poly) → Same (suc q) (worth q ρ (scale_all c d Q)) ((c + q * d) * worth q ρ Q)
  unfolding worth
  scale_all_worth ρ c d (constant c' d') =
      same_eq (omega arith)
      then sums (back (twice_negative (d * d'))) (same (c * c' + q * (c * d' + d * c')))
      then same_eq (omega arith)
  scale_all_worth ρ c d (step h t) =
      sums (scale_all_worth (others ρ) c d h) (products (same (first ρ)) (scale_all_worth ρ c d t)) then same_eq (omega arith)

  scale_worth : (ρ : List ℕ) (c d : ℕ) (Q : Poly) → Same (suc q) (worth q ρ (scale c d Q)) ((c + q * d) * worth q ρ Q)
  unfolding worth
  scale_worth ρ zero zero Q = same_eq (omega arith)
  scale_worth ρ zero (suc d) Q = scale_all_worth ρ zero (suc d) Q
  scale_worth ρ (suc c) d Q = scale_all_worth ρ (suc c) d Q

  throughout_worth : (ρ : List ℕ) (f : Poly → Poly) (m : ℕ) → ((Q : Poly) → Same (suc q) (worth q (others ρ) (f Q)) (m * worth q (others ρ) Q))
      → (Q : Poly) → Same (suc q) (worth q ρ (throughout f Q)) (m * worth q ρ Q)
  unfolding worth
  throughout_worth ρ f m F (constant zero zero) = same_eq (omega arith)
  throughout_worth ρ f m F (constant zero (suc d)) = sums (F (constant zero (suc d))) (same (first ρ * (0 + q * 0))) then same_eq (omega arith)
  throughout_worth ρ f m F (constant (suc c) d) = sums (F (constant (suc c) d)) (same (first ρ * (0 + q * 0))) then same_eq (omega arith)
  throughout_worth ρ f m F (step h t) =
      sums (F h) (products (same (first ρ)) (throughout_worth ρ f m F t)) then same_eq (omega arith)

  multiply_worth : (ρ : List ℕ) (P Q : Poly) → Same (suc q) (worth q ρ (multiply P Q)) (worth q ρ P * worth q ρ Q)
  unfolding worth
  multiply_worth ρ (constant c d) Q = scale_worth ρ c d Q
  multiply_worth ρ (step h t) Q =
      same_eq (add_worth ρ (throughout (multiply h) Q) (step (constant 0 0) (multiply t Q)))
      then sums (throughout_worth ρ (multiply h) (worth q (others ρ) h) (λ R. multiply_worth (others ρ) h R) Q)
      (sums (same (0 + q * 0)) (products (same (first ρ)) (multiply_worth ρ t Q)))
      then same_eq (omega arith)

  variable_worth : (ρ : List ℕ) (i : ℕ) → worth q ρ (variable i) ≡ get_or ρ i 0
  unfolding worth
  variable_worth [] zero = omega arith
  variable_worth (x ∷ ρ) zero = omega arith
  variable_worth [] (suc i) = omega (arith, variable_worth [] i)
  variable_worth (x ∷ ρ) (suc i) = omega (arith, variable_worth ρ i)

  one_less : suc q - 1 ≡ q
  one_less = omega arith

  normal_worth : (ρ : List ℕ) (e : Expr) → Same (suc q) (value (suc q) ρ e) (worth q ρ (normal e))
  unfolding worth
  normal_worth ρ (var i) = same_eq (sym (variable_worth ρ i))
  normal_worth ρ (num k) = same_eq (omega arith)
  normal_worth ρ (e ⊕ f) =
      plus_same (suc q) (value (suc q) ρ e) (value (suc q) ρ f)
      then sums (normal_worth ρ e) (normal_worth ρ f)
      then same_eq (sym (add_worth ρ (normal e) (normal f)))
  normal_worth ρ (e ⊖ f) =
      minus_same (omega arith) (value (suc q) ρ e) (value (suc q) ρ f)
      then sums (normal_worth ρ e) (same_eq (ap (λ (n : ℕ). n * value (suc q) ρ f) one_less) then products (same q) (normal_worth ρ f) then back (negative_worth ρ (normal f)))
      then same_eq (sym (add_worth ρ (normal e) (negative (normal f))))
  normal_worth ρ (e ⊗ f) =
      times_same (suc q) (value (suc q) ρ e) (value (suc q) ρ f)
      then products (normal_worth ρ e) (normal_worth ρ f)
      then back (multiply_worth ρ (normal e) (normal f))

  vanishing_worth : (ρ : List ℕ) (P : Poly) → T (vanishing P) → Same (suc q) (worth q ρ P) 0
  unfolding worth
  vanishing_worth ρ (constant c d) t =
      let e : c ≡ d = eqb→eq c d t in same_eq (omega (arith, e, ap (λ (n : ℕ). q * n) e)) then multiple_of (suc q) d
  vanishing_worth ρ (step h t) all =
      sums (vanishing_worth (others ρ) h (both (vanishing h) (vanishing t) all).0)
      (products (same (first ρ)) (vanishing_worth ρ t (both (vanishing h) (vanishing t) all).1))
      then same_eq (omega arith)

-- ---- the laws to cite: identities, and what follows from expressions that are 0

-- the expression is 0 modulo p
pub record Zero (p : ℕ) (ρ : List ℕ) (e : Expr) : Type 0 where
  pub is_zero : Same p (value p ρ e) 0

pub zero_identity : {p : ℕ} (ρ : List ℕ) (e : Expr) → 0 < p → Vanishes e → Zero p ρ e
zero_identity {p = zero} ρ e h t = absurd (omega arith)
zero_identity {p = suc q} ρ e h t = record { is_zero = normal_worth q ρ e then vanishing_worth q ρ (normal e) t }

module _ {p : ℕ} {ρ : List ℕ} where
  pub none : Zero p ρ (num 0)
  none = record { is_zero = same 0 }

  pub ◌⊞◌ : {e f : Expr} → Zero p ρ e → Zero p ρ f → Zero p ρ (e ⊕ f)
  ◌⊞◌ {e} {f} y z = record { is_zero = plus_same p (value p ρ e) (value p ρ f) then sums y.is_zero z.is_zero }

  pub ◌⊟◌ : {e f : Expr} → Zero p ρ e → Zero p ρ f → Zero p ρ (e ⊖ f)
  ◌⊟◌ {e} {f} y z = record { is_zero = minus_zero (value p ρ e) z.is_zero then y.is_zero }

  pub ◌⊡◌ : (c : Expr) {e : Expr} → Zero p ρ e → Zero p ρ (c ⊗ e)
  ◌⊡◌ c {e} z =
      record {
        is_zero =
            times_same p (value p ρ c) (value p ρ e) then products (same (value p ρ c)) z.is_zero then same_eq (mul-zero (value p ρ c));
      }

  infixl 60 ◌⊞◌
  infixl 60 ◌⊟◌
  infixl 70 ◌⊡◌

-- differences, for p other than 0
module _ {p : ℕ} (h : 0 < p) (ρ : List ℕ) where
  pub gap : (l r : Expr) → Same p (value p ρ l) (value p ρ r) → Zero p ρ (l ⊖ r)
  gap l r s = record { is_zero = minus_none h s }

  pub identity : (l r : Expr) → Vanishes (l ⊖ r) → Same p (value p ρ l) (value p ρ r)
  identity l r t = none_minus h (zero_identity ρ (l ⊖ r) h t).is_zero

  -- what is a combination of expressions that are 0 is 0
  pub combined : {e : Expr} → Zero p ρ e → (f : Expr) → Vanishes (f ⊖ e) → Zero p ρ f
  combined {e} z f t = record { is_zero = identity f e t then z.is_zero }

  pub follows : {e : Expr} → Zero p ρ e → (l r : Expr) → Vanishes (l ⊖ r ⊖ e) → Same p (value p ρ l) (value p ρ r)
  follows {e} z l r t = none_minus h (combined z (l ⊖ r) t).is_zero
