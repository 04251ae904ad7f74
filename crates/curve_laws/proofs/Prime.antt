-- Primes: more than 1, and no divisor between. Modulo a prime every number but 0 has an inverse (from that of the remainder p % a, which
-- is smaller), so that products of numbers other than 0 are not 0, and factors other than 0 cancel.
use mathlib.Core.Path.{◌≡◌, sym, ap, ◌∙◌}
use mathlib.Core.Logic.{◌≢◌}
use Prim.Native.Nat.{ℕ, zero, suc, ◌+◌, ◌-◌, ◌*◌, ◌/◌, ◌%◌, ◌≤◌, ◌<◌}
use native.Mathlib.Omega.{arith}
use native.Mathlib.Decide.{dec_lt}
use native.Mathlib.Nat.{mod-lt, div-add-mod', mul-one}
use Rattle.curve_laws.specs.Valid.{Prime}
use Rattle.curve_laws.proofs.Modular.{Same, same, same_eq, back, ◌then◌, rest_of, multiple_of, products, cancel_sum}

pub record Inverted (p a : ℕ) : Type 0 where
  pub by : ℕ
  pub gives_one : Same p (a * by) 1

-- p = q a + r: what inverts r, times -q, inverts a
from_rest : (p a : ℕ) → 0 < p → Inverted p (p % a) → Inverted p a
from_rest p a h I =
    let b : ℕ = I.by in
    let q : ℕ = p / a in
    let r : ℕ = p % a in
    let m : ℕ = p - 1 in
    let whole : q * a + r ≡ p = div-add-mod' p a in
    let one_less : m + 1 ≡ p = omega arith in
    let first : a * (q * b * m) + r * b * m ≡ b * m * p = omega (arith, ap (λ (n : ℕ). b * m * n) whole) in
    let second : r * b + r * b * m ≡ r * b * p = omega (arith, ap (λ (n : ℕ). r * b * n) one_less) in
    record {
      by = q * b * m;
      gives_one =
          cancel_sum (r * b * m) h (same_eq first then multiple_of p (b * m) then back (multiple_of p (r * b)) then same_eq (sym second))
          then I.gives_one;
    }

module _ {p : ℕ} (P : Prime p) where
  inverts_below : (fuel a : ℕ) → a ≤ fuel → 0 < a → a < p → Inverted p a
  inverts_below zero a f h l = absurd (omega arith)
  inverts_below (suc fuel) a f h l = go (dec_lt 1 a) (λ b. inverts_below fuel b)
    where
      go : Dec (1 < a) → ((b : ℕ) → b ≤ fuel → 0 < b → b < p → Inverted p b) → Inverted p a
      go (no q) smaller = record { by = 1; gives_one = same_eq (mul-one a ∙ omega arith) }
      go (yes q) smaller =
          let small : p % a < a = mod-lt p h in
          let some : p % a ≢ 0 = P.indivisible a q l in
          from_rest p a (omega arith) (smaller (p % a) (omega arith) (omega arith) (omega arith))

  pub inverts : (a : ℕ) → a % p ≢ 0 → Inverted p a
  inverts a h =
      let m : 1 < p = P.above_one in
      let l : a % p < p = mod-lt a (omega arith) in
      let I : Inverted p (a % p) = inverts_below (a % p) (a % p) (omega arith) (omega arith) l in
      record { by = I.by; gives_one = products (back (rest_of p a)) (same I.by) then I.gives_one }

  -- factors other than 0 cancel
  pub cancel_factor : {a b : ℕ} (c : ℕ) → c % p ≢ 0 → Same p (c * a) (c * b) → Same p a b
  cancel_factor {a} {b} c h e =
      let i : ℕ = (inverts c h).by in
      let one : Same p (c * i) 1 = (inverts c h).gives_one in
      let alone : (n : ℕ) → Same p (i * (c * n)) n
      = λ n. same_eq (omega arith) then products one (same n) then same_eq (omega arith) in
      back (alone a) then products (same i) e then alone b

  pub no_zero_product : (a b : ℕ) → a % p ≢ 0 → Same p (a * b) 0 → Same p b 0
  no_zero_product a b h e = cancel_factor a h (e then same_eq (omega arith))
