-- Modulo a prime: the inverse inverts (by Fermat), a quotient times its divisor is the dividend, factors other than 0 cancel, and a product is
-- 0 only where a factor is. The same for expressions: what is a combination of zeros when multiplied by a nonzero factor is 0.
use mathlib.Core.Path.{◌≡◌, sym, ap, ◌∙◌}
use mathlib.Core.Logic.{◌≢◌, ◌⊎◌, inl, inr}
use mathlib.Core.List.{List}
use Prim.Native.Nat.{ℕ, suc, ◌-◌, ◌%◌, ◌^◌, ◌<◌}
use native.Mathlib.Omega.{arith}
use native.Mathlib.Decide.{ℕ_discrete}
use native.Mathlib.Nat.{mod-eq_of_lt, zero-mod, pow-suc, mul-zero}
use Rattle.curve_laws.specs.Modulo.{times, power, inverse, over}
use Rattle.curve_laws.specs.Valid.{Prime}
use Rattle.curve_laws.proofs.Modular.{Same, same, same_eq, back, ◌then◌, products}
use Rattle.curve_laws.proofs.Prime.{cancel_factor}
use Rattle.curve_laws.proofs.Fermat.{fermat_one}
use Rattle.curve_laws.proofs.Modulo.{times_same, power_same, none_minus}
use Rattle.curve_laws.proofs.Ring.{Expr, ◌⊖◌, ◌⊗◌, value, Vanishes, Zero, combined}

pub positive : {p : ℕ} → Prime p → 0 < p
positive {p} P = let m : 1 < p = P.above_one in omega arith

pub same? : (p a b : ℕ) → Dec (Same p a b)
same? p a b = go (ℕ_discrete (a % p) (b % p))
  where
    go : Dec (a % p ≡ b % p) → Dec (Same p a b)
    go (yes e) = yes (record { rest = e })
    go (no n) = no (λ s. n s.rest)

abbrev pub NonZero : ℕ → ℕ → Type 0
NonZero p a = Same p a 0 → ⊥

pub rest_nonzero : {p a : ℕ} → NonZero p a → a % p ≢ 0
rest_nonzero {p} h e = h (record { rest = e ∙ sym (zero-mod p) })

-- of the numbers below p only 0 is 0
pub below_zero : {p a : ℕ} → a < p → Same p a 0 → a ≡ 0
below_zero {p} l s = sym (mod-eq_of_lt l) ∙ s.rest ∙ zero-mod p

pub below_nonzero : {p a : ℕ} → 0 < a → a < p → NonZero p a
below_nonzero {a = a} h l s = let e : a ≡ 0 = below_zero l s in omega arith

module _ {p : ℕ} (P : Prime p) where
  pub inverse_one : (a : ℕ) → NonZero p a → Same p (times p a (inverse p a)) 1
  unfolding inverse
  inverse_one a h =
      let m : 1 < p = P.above_one in
      let e : suc (p - 2) ≡ p - 1 = omega arith in
      times_same p a (power p a (p - 2))
      then products (same a) (power_same p a (p - 2))
      then same_eq (omega (arith, pow-suc a (p - 2)) ∙ ap (λ (n : ℕ). a ^ n) e)
      then fermat_one p P a (rest_nonzero h)

  -- the inverse of 0 counts as 0, for p other than 2
  pub inverse_zero : 2 < p → {a : ℕ} → Same p a 0 → Same p (inverse p a) 0
  unfolding inverse
  inverse_zero h {a} z =
      let e : suc (p - 3) ≡ p - 2 = omega arith in
      power_same p a (p - 2)
      then same_eq (ap (λ (n : ℕ). a ^ n) (sym e) ∙ pow-suc a (p - 3))
      then products (same (a ^ (p - 3))) z
      then same_eq (mul-zero (a ^ (p - 3)))

  pub over_times : (a b : ℕ) → NonZero p b → Same p (times p (over p a b) b) a
  unfolding over
  over_times a b h =
      let i : ℕ = inverse p b in
      times_same p (times p a i) b
      then products (times_same p a i) (same b)
      then same_eq (omega arith)
      then products (same a) (back (times_same p b i) then inverse_one b h)
      then same_eq (omega arith)

  pub cancel : {a b : ℕ} (c : ℕ) → NonZero p c → Same p (times p c a) (times p c b) → Same p a b
  cancel {a} {b} c h s = cancel_factor P c (rest_nonzero h) (back (times_same p c a) then s then times_same p c b)

  pub zero_product : (a : ℕ) {b : ℕ} → NonZero p a → Same p (times p a b) 0 → Same p b 0
  zero_product a {b} h s = cancel_factor P a (rest_nonzero h) (back (times_same p a b) then s then same_eq (sym (mul-zero a)))

  pub zero_factor : {a b : ℕ} → Same p (times p a b) 0 → Same p a 0 ⊎ Same p b 0
  zero_factor {a} {b} s = go (same? p a 0)
    where
      go : Dec (Same p a 0) → Same p a 0 ⊎ Same p b 0
      go (yes z) = inl z
      go (no n) = inr (zero_product a n s)

  pub times_nonzero : {a b : ℕ} → NonZero p a → NonZero p b → NonZero p (times p a b)
  times_nonzero {a} h k s = k (zero_product a h s)

  pub divided : {ρ : List ℕ} {e : Expr} → Zero p ρ e → (c f : Expr) → NonZero p (value p ρ c) → Vanishes (c ⊗ f ⊖ e) → Zero p ρ f
  divided {ρ} z c f h t = record { is_zero = zero_product (value p ρ c) h (combined (positive P) ρ z (c ⊗ f) t).is_zero }

  pub follows_divided : {ρ : List ℕ} {e : Expr} → Zero p ρ e → (c l r : Expr) → NonZero p (value p ρ c) → Vanishes (c ⊗ (l ⊖ r) ⊖ e)
      → Same p (value p ρ l) (value p ρ r)
  follows_divided z c l r h t = none_minus (positive P) (divided z c (l ⊖ r) h t).is_zero
