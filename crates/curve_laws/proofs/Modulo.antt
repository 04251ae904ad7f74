-- The operations modulo p stand for those of numbers: each result is below p, and modulo p it is the sum, the product, the power, or for the
-- difference the sum with p - 1 times the subtrahend.
use mathlib.Core.Path.{◌≡◌, ap, ◌∙◌}
use Prim.Native.Nat.{ℕ, ◌+◌, ◌-◌, ◌*◌, ◌/◌, ◌%◌, ◌^◌, ◌<◌}
use native.Mathlib.Omega.{arith}
use native.Mathlib.Nat.{mod-lt, div-add-mod', zero-mod, mul-zero, zero-mul}
use Rattle.curve_laws.specs.Modulo.{plus, times, minus, power}
use Rattle.curve_laws.proofs.Modular.{Same, same, same_eq, back, ◌then◌, rest_of, drops, multiple_of, sums, products, powers, cancel_sum}

pub plus_same : (p a b : ℕ) → Same p (plus p a b) (a + b)
unfolding plus
plus_same p a b = rest_of p (a + b)

pub times_same : (p a b : ℕ) → Same p (times p a b) (a * b)
unfolding times
times_same p a b = rest_of p (a * b)

pub power_same : (p a n : ℕ) → Same p (power p a n) (a ^ n)
unfolding power
power_same p a n = rest_of p (a ^ n)

-- the operations read their arguments modulo p
pub plus_reads : {p a b c d : ℕ} → Same p a b → Same p c d → plus p a c ≡ plus p b d
unfolding plus
plus_reads s t = (sums s t).rest

pub times_reads : {p a b c d : ℕ} → Same p a b → Same p c d → times p a c ≡ times p b d
unfolding times
times_reads s t = (products s t).rest

pub minus_reads : {p a b c d : ℕ} → Same p a b → Same p c d → minus p a c ≡ minus p b d
unfolding minus
minus_reads {p} s t = (sums s (same_eq (ap (λ (n : ℕ). p - n) t.rest))).rest

pub power_reads : {p a b : ℕ} → Same p a b → (n : ℕ) → power p a n ≡ power p b n
unfolding power
power_reads s n = (powers s n).rest

pub times_zero : {p b : ℕ} (a : ℕ) → Same p b 0 → Same p (times p a b) 0
times_zero {p} {b} a z = times_same p a b then products (same a) z then same_eq (mul-zero a)

pub zero_times : {p a : ℕ} (b : ℕ) → Same p a 0 → Same p (times p a b) 0
zero_times {p} {a} b z = times_same p a b then products z (same b) then same_eq (zero-mul b)

pub minus_zero : {p b : ℕ} (a : ℕ) → Same p b 0 → Same p (minus p a b) a
unfolding minus
minus_zero {p} {b} a z =
    let none : b % p ≡ 0 = z.rest ∙ zero-mod p in
    rest_of p (a + (p - b % p)) then same_eq (omega (arith, none)) then drops p a 1

module _ {p : ℕ} (h : 0 < p) where
  -- both, with b added, are a modulo p
  pub minus_same : (a b : ℕ) → Same p (minus p a b) (a + (p - 1) * b)
  unfolding minus
  minus_same a b =
      let r : ℕ = b % p in
      let l : r < p = mod-lt b h in
      let whole : b / p * p + r ≡ b = div-add-mod' b p in
      let k : ℕ = p - r in
      let filled : k + r ≡ p = omega arith in
      let q : ℕ = p - 1 in
      let next : q + 1 ≡ p = omega arith in
      let first : a + k + b ≡ a + (b / p + 1) * p = omega (arith, whole, filled) in
      let second : a + q * b + b ≡ a + b * p = omega (arith, ap (λ (n : ℕ). b * n) next) in
      rest_of p (a + k)
      then cancel_sum b h (same_eq first then drops p a (b / p + 1) then back (same_eq second then drops p a b))

  -- a difference is 0 exactly where the two are the same
  pub minus_none : {a b : ℕ} → Same p a b → Same p (minus p a b) 0
  minus_none {a} {b} s =
      let next : p - 1 + 1 ≡ p = omega arith in
      minus_same a b
      then sums s (same ((p - 1) * b))
      then same_eq (omega (arith, ap (λ (n : ℕ). n * b) next))
      then multiple_of p b

  pub none_minus : {a b : ℕ} → Same p (minus p a b) 0 → Same p a b
  none_minus {a} {b} z =
      let next : p - 1 + 1 ≡ p = omega arith in
      back (drops p a b)
      then same_eq (omega (arith, ap (λ (n : ℕ). n * b) next))
      then sums (back (minus_same a b) then z) (same b)
      then same_eq (omega arith)

  pub plus_below : (a b : ℕ) → plus p a b < p
  unfolding plus
  plus_below a b = mod-lt (a + b) h

  pub times_below : (a b : ℕ) → times p a b < p
  unfolding times
  times_below a b = mod-lt (a * b) h

  pub minus_below : (a b : ℕ) → minus p a b < p
  unfolding minus
  minus_below a b = mod-lt (a + (p - b % p)) h
