-- The power of the base above m's limbs is a unit modulo m: m inv + 1 is the base times its inverse, whatever m is.
use mathlib.Core.Path.{◌≡◌, sym, ap, ◌∙◌}
use mathlib.Core.List.{List}
use Prim.Native.Nat.{ℕ, zero, suc, ◌+◌, ◌*◌, ◌-◌, ◌%◌, ◌^◌, ◌<◌}
use native.Mathlib.Nat.{pow-zero, pow-suc, mod-lt, mod-eq_of_lt, zero-mod}
use native.Mathlib.Omega.{arith}
use lib.ListN.{length, get_or, drop}
use Rattle.limbs.specs.Limbs.{value, Modulus}
use Rattle.limbs.proofs.Limbs.{value_drop}
use Rattle.curve_laws.specs.Modulo.{plus, times, minus}
use Rattle.curve_laws.proofs.Modular.{Same, same, same_eq, back, ◌then◌, rest_of, drops, equal_below, sums, products, powers}
use Rattle.curve_laws.proofs.Powers.{one_power}
use Rattle.curve_laws.proofs.Modulo.{minus_same, minus_below}
use Rattle.field.specs.Montgomery.{shrink}

product_power : (a b n : ℕ) → (a * b) ^ n ≡ a ^ n * b ^ n
product_power a b zero = pow-zero (a * b) ∙ sym (ap (λ (k : ℕ). k * b ^ 0) (pow-zero a) ∙ ap (λ (k : ℕ). 1 * k) (pow-zero b))
product_power a b (suc n) =
    let ih : (a * b) ^ n ≡ a ^ n * b ^ n = product_power a b n in
    pow-suc (a * b) n
    ∙ ap (λ (k : ℕ). k * (a * b)) ih
    ∙ sym (ap (λ (k : ℕ). k * b ^ suc n) (pow-suc a n) ∙ ap (λ (k : ℕ). a ^ n * a * k) (pow-suc b n) ∙ omega arith)

module _ (m : List ℕ) (inv : ℕ) (h : Modulus m inv) where
  base_unit : 4294967296 * shrink m inv ≡ value m * inv + 1
  unfolding shrink
  base_unit =
      let first : value m ≡ get_or m 0 0 + 4294967296 * value (drop 1 m) = value_drop m 0 h.some in
      let whole : value m * inv + 1 ≡ get_or m 0 0 * inv + 1 + 4294967296 * (value (drop 1 m) * inv) = omega (arith, ap (λ (k : ℕ). k * inv) first) in
      omega (arith, h.inverse)

  pub unit : Same (value m) (4294967296 ^ length m * shrink m inv ^ length m) 1
  unit =
      same_eq (sym (product_power 4294967296 (shrink m inv) (length m)) ∙ ap (λ (k : ℕ). k ^ length m) (base_unit ∙ omega arith))
      then powers (drops (value m) 1 inv) (length m)
      then same_eq (one_power (length m))

-- below p the second operand needs no reduction
is_minus : {p : ℕ} (a b t : ℕ) → b < p → t ≡ (a + (p - b)) % p → t ≡ minus p a b
unfolding minus
is_minus {p} a b t l e = e ∙ ap (λ (k : ℕ). (a + (p - k)) % p) (sym (mod-eq_of_lt l))

-- what a form holds, u the inverse of the power r
module _ (p r u : ℕ) (h : 0 < p) (unit : Same p (r * u) 1) where
  pub holds_product : (a b t : ℕ) → t * r % p ≡ a * b % p → t * u % p ≡ times p (a * u % p) (b * u % p)
  unfolding times
  holds_product a b t e =
      let one : t * u ≡ t * u * 1 = omega arith in
      let powers : t * u * (r * u) ≡ t * r * (u * u) = omega arith in
      let parts : a * b * (u * u) ≡ a * u * (b * u) = omega arith in
      let s : Same p (t * r) (a * b) = record { rest = e } in
      (same_eq one
      then products (same (t * u)) (back unit)
      then same_eq powers
      then products s (same (u * u))
      then same_eq parts
      then back (products (rest_of p (a * u)) (rest_of p (b * u)))).rest

  pub holds_sum : (a b t : ℕ) → t ≡ (a + b) % p → t * u % p ≡ plus p (a * u % p) (b * u % p)
  unfolding plus
  holds_sum a b t e =
      let parts : (a + b) * u ≡ a * u + b * u = omega arith in
      (products (same_eq e then rest_of p (a + b)) (same u)
      then same_eq parts
      then back (sums (rest_of p (a * u)) (rest_of p (b * u)))).rest

  pub holds_difference : (a b t : ℕ) → b < p → t ≡ (a + (p - b)) % p → t * u % p ≡ minus p (a * u % p) (b * u % p)
  holds_difference a b t l e =
      let q : ℕ = p - 1 in
      let x : ℕ = a * u % p in
      let y : ℕ = b * u % p in
      let parts : (a + q * b) * u ≡ a * u + q * (b * u) = omega arith in
      equal_below
      (rest_of p (t * u)
      then products (same_eq (is_minus a b t l e) then minus_same h a b) (same u)
      then same_eq parts
      then sums (back (rest_of p (a * u))) (products (same q) (back (rest_of p (b * u))))
      then back (minus_same h x y))
      (mod-lt (t * u) h) (minus_below h x y)

  -- only 0 holds 0
  pub holds_zero : (a : ℕ) → a < p → a * u % p ≡ 0 → a ≡ 0
  holds_zero a l e =
      let one : a ≡ a * 1 = omega arith in
      let parts : a * (r * u) ≡ a * u * r = omega arith in
      let none : 0 * r ≡ 0 = omega arith in
      let s : Same p (a * u) 0 = record { rest = e ∙ sym (zero-mod p) } in
      equal_below (same_eq one then products (same a) (back unit) then same_eq parts then products s (same r) then same_eq none) l h

  -- the power squared takes a number into its form
  pub holds_into : (a s t : ℕ) → a < p → s ≡ r * r % p → t ≡ times p (a * u % p) (s * u % p) → t ≡ a
  unfolding times
  holds_into a s t l e f =
      let parts : a * u * (r * r * u) ≡ a * (r * u) * (r * u) = omega arith in
      let one : a * 1 * 1 ≡ a = omega arith in
      equal_below
      (same_eq f
      then rest_of p (a * u % p * (s * u % p))
      then products (rest_of p (a * u)) (rest_of p (s * u) then products (same_eq e then rest_of p (r * r)) (same u))
      then same_eq parts
      then products (products (same a) unit) unit
      then same_eq one)
      (rw f (mod-lt (a * u % p * (s * u % p)) h)) l

  -- and the product by 1 takes it out
  pub holds_out : (a t : ℕ) → t < p → t * u % p ≡ times p (a * u % p) (1 * u % p) → t ≡ a * u % p
  unfolding times
  holds_out a t l e =
      let one : t ≡ t * 1 = omega arith in
      let first : t * (r * u) ≡ t * u * r = omega arith in
      let parts : a * u * (1 * u) * r ≡ a * u * (r * u) = omega arith in
      let last : a * u * 1 ≡ a * u = omega arith in
      let s : Same p (t * u) (a * u % p * (1 * u % p)) = record { rest = e } in
      equal_below
      (same_eq one
      then products (same t) (back unit)
      then same_eq first
      then products (s then products (rest_of p (a * u)) (rest_of p (1 * u))) (same r)
      then same_eq parts
      then products (same (a * u)) unit
      then same_eq last
      then back (rest_of p (a * u)))
      l (mod-lt (a * u) h)
