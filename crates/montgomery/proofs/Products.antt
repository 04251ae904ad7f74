-- Montgomery's product, step by step: after i steps the power B^i times t is the product of a's lowest i limbs by b, and some
-- times m; and t stays below 2 m.
use mathlib.Core.Path.{◌≡◌, sym, ap, ◌∙◌}
use mathlib.Core.List.{List, [], ◌∷◌}
use Prim.Native.Nat.{ℕ, ◌+◌, ◌*◌, ◌/◌, ◌%◌, ◌^◌, ◌≤◌, ◌<◌}
use native.Mathlib.Nat.{pow-suc, mul-le-mul, mod-add-div, add-mul-mod_self_left, add-mul-mod_self_right, mul_comm}
use native.Mathlib.Numerals.{add-one}
use native.Mathlib.Omega.{arith}
use lib.ListN.{length, get_or, take}
use lib.Seq.{take-suc, length-take-le}
use Rattle.limbs.specs.Limbs.{over, value, quotient}
use Rattle.limbs.proofs.Limbs.{over_append, over_value}

-- one limb more of a
pub value_take : (a : List ℕ) (i : ℕ) → i < length a → value (take (i + 1) a) ≡ value (take i a) + 4294967296 ^ i * get_or a i 0
unfolding over value
value_take a i h =
    let width : length (take i a) ≡ i = length-take-le i a (omega arith) in
    let bare : get_or a i 0 + 4294967296 * 0 ≡ get_or a i 0 = omega arith in
    ap (λ (k : ℕ). over (take k a) 0) (add-one i)
    ∙ ap (λ (l : List ℕ). over l 0) (take-suc a i 0 h)
    ∙ over_append (take i a) (get_or a i 0 ∷ []) 0
    ∙ over_value (take i a) (get_or a i 0 + 4294967296 * 0)
    ∙ ap (λ (k : ℕ). value (take i a) + 4294967296 ^ k * (get_or a i 0 + 4294967296 * 0)) width
    ∙ ap (λ (k : ℕ). value (take i a) + 4294967296 ^ i * k) bare

pub quotient_less : (n inv : ℕ) → quotient n inv < 4294967296
unfolding quotient
quotient_less n inv = omega arith

-- a remainder times k has the remainder of the product
pub mod_times : (n k m : ℕ) → n % m * k % m ≡ n * k % m
mod_times n k m =
    sym (add-mul-mod_self_left (n % m * k) m (n / m * k))
    ∙ ap (λ (j : ℕ). j % m) (omega (arith, ap (λ (j : ℕ). j * k) (mod-add-div n m)))

module _ (t t' x b q m : ℕ) (step : 4294967296 * t' ≡ t + x * b + q * m) where
  pub stays_below : t < 2 * m → b < m → x < 4294967296 → q < 4294967296 → t' < 2 * m
  stays_below h l k j =
      let of-x : x * b ≤ 4294967295 * m = mul-le-mul (omega arith) (omega arith) in
      let of-q : q * m ≤ 4294967295 * m = mul-le-mul (omega arith) (omega arith) in
      omega arith

  pub goes_on : (i a a' s : ℕ) → 4294967296 ^ i * t ≡ a * b + s * m → a' ≡ a + 4294967296 ^ i * x
      → 4294967296 ^ (i + 1) * t' ≡ a' * b + (s + 4294967296 ^ i * q) * m
  goes_on i a a' s e f =
      let more : 4294967296 ^ (i + 1) ≡ 4294967296 ^ i * 4294967296 = ap (λ (k : ℕ). 4294967296 ^ k) (add-one i) ∙ pow-suc 4294967296 i in
      omega (arith, ap (λ (k : ℕ). k * t') more, ap (λ (k : ℕ). 4294967296 ^ i * k) step, ap (λ (k : ℕ). k * b) f)

-- at the end: the remainder of t, times the power, is the product modulo m
pub product_at : (p t t' ab s m : ℕ) → p * t ≡ ab + s * m → t' ≡ t % m → t' * p % m ≡ ab % m
product_at p t t' ab s m e f =
    ap (λ (k : ℕ). k * p % m) f ∙ mod_times t p m ∙ ap (λ (k : ℕ). k % m) (mul_comm t p ∙ e) ∙ add-mul-mod_self_right ab s m
