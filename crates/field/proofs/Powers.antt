-- Powers by squares: one bit more of the exponent.
use mathlib.Core.Path.{◌≡◌, sym, ap, ◌∙◌}
use mathlib.Core.List.{List}
use Prim.Native.Nat.{ℕ, ◌+◌, ◌-◌, ◌*◌, ◌/◌, ◌%◌, ◌^◌, ◌<◌}
use native.Mathlib.Nat.{pow-zero, mod-eq_of_lt, div-one}
use native.Mathlib.Omega.{arith}
use lib.ListN.{length}
use lib.Pow.{pow-add, shr-shr}
use Rattle.limbs.specs.Limbs.{value}
use Rattle.limbs.proofs.Limbs.{Limbs, value_end}
use Rattle.digits.proofs.Digits.{value_high}
use Rattle.curve_laws.specs.Modulo.{times, power}
use Rattle.curve_laws.proofs.Modular.{Same, same, same_eq, ◌then◌, rest_of, products}
use Rattle.curve_laws.proofs.Powers.{power_one}

-- the square, and times a for a bit of 1
pub without : (p t a bit : ℕ) → bit ≡ 0 → times p t t ≡ t * t * a ^ bit % p
unfolding times
without p t a bit e =
    let one : t * t ≡ t * t * 1 = omega arith in
    ap (λ (k : ℕ). k % p) (one ∙ ap (λ (k : ℕ). t * t * k) (sym (ap (λ (k : ℕ). a ^ k) e ∙ pow-zero a)))

pub with_one : (p t a bit : ℕ) → bit ≡ 1 → times p (times p t t) a ≡ t * t * a ^ bit % p
unfolding times
with_one p t a bit e =
    let s : Same p (t * t % p * a) (t * t * a) = products (rest_of p (t * t)) (same a) in
    s.rest ∙ ap (λ (k : ℕ). t * t * k % p) (sym (ap (λ (k : ℕ). a ^ k) e ∙ power_one a))

-- no bit of the exponent yet
pub power_start : (p a : ℕ) (e : List ℕ) → 1 < p → Limbs e → 1 ≡ power p a (value e / 2 ^ (32 * length e))
unfolding power
power_start p a e h l =
    let none : value e / 2 ^ (32 * length e) ≡ 0 = value_high e (length e) l ∙ value_end e (length e) (omega arith) in
    sym (ap (λ (k : ℕ). a ^ k % p) none ∙ ap (λ (k : ℕ). k % p) (pow-zero a) ∙ mod-eq_of_lt h)

-- one bit more
pub power_turn : (p a e left x bit : ℕ) → 0 < left → x ≡ power p a (e / 2 ^ left) → bit ≡ e / 2 ^ (left - 1) % 2
    → x * x * a ^ bit % p ≡ power p a (e / 2 ^ (left - 1))
unfolding power
power_turn p a e left x bit h f g =
    let k : ℕ = e / 2 ^ left in
    let last : left - 1 + 1 ≡ left = omega arith in
    let half : e / 2 ^ (left - 1) / 2 ≡ e / 2 ^ left = shr-shr e (left - 1) 1 ∙ ap (λ (j : ℕ). e / 2 ^ j) last in
    let all : k + k + bit ≡ e / 2 ^ (left - 1) = omega arith in
    let of-x : Same p x (a ^ k) = same_eq f then rest_of p (a ^ k) in
    (products (products of-x of-x) (same (a ^ bit))
    then same_eq
    (ap (λ (j : ℕ). j * a ^ bit) (sym (pow-add a k k))
    ∙ sym (pow-add a (k + k) bit)
    ∙ ap (λ (j : ℕ). a ^ j) all)).rest

-- all of them
pub power_end : (p a e left : ℕ) → left ≡ 0 → power p a (e / 2 ^ left) ≡ power p a e
power_end p a e left z = ap (λ (k : ℕ). power p a (e / 2 ^ k)) z ∙ ap (λ (k : ℕ). power p a k) (div-one e)
