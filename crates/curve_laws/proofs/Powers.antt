-- Powers modulo m: laws of exponents, and the quick way by squares, one for each bit of the exponent from the top, which antt computes.
use mathlib.Core.Path.{◌≡◌, refl, sym, ap, ◌∙◌}
use Prim.Native.Nat.{ℕ, zero, suc, ◌+◌, ◌*◌, ◌/◌, ◌%◌, ◌^◌, ◌<◌}
use native.Mathlib.Omega.{arith}
use native.Mathlib.Nat.{pow-zero, pow-suc, mul-zero, mul-suc}
use lib.Pow.{pow-add}
use Rattle.curve_laws.proofs.Modular.{Same, same, same_eq, ◌then◌, rest_of, products}

pub power_one : (a : ℕ) → a ^ 1 ≡ a
power_one a = pow-suc a zero ∙ ap (λ (x : ℕ). x * a) (pow-zero a) ∙ omega arith

pub one_power : (n : ℕ) → 1 ^ n ≡ 1
one_power zero = refl
one_power (suc n) = pow-suc 1 n ∙ ap (λ (x : ℕ). x * 1) (one_power n)

pub power_power : (a m n : ℕ) → (a ^ m) ^ n ≡ a ^ (m * n)
power_power a m zero = pow-zero (a ^ m) ∙ sym (ap (λ (k : ℕ). a ^ k) (mul-zero m) ∙ pow-zero a)
power_power a m (suc n) =
    pow-suc (a ^ m) n
    ∙ ap (λ (x : ℕ). x * a ^ m) (power_power a m n)
    ∙ sym (ap (λ (k : ℕ). a ^ k) (mul-suc m n) ∙ pow-add a (m * n) m)

-- a to the n modulo m, for n of so many bits
abbrev pub quick : ℕ → ℕ → ℕ → ℕ → ℕ
quick m zero a n = 1
quick m (suc bits) a n = let s = quick m bits a (n / 2) in s * s * a ^ (n % 2) % m

pub quick_power : (m bits a n : ℕ) → n < 2 ^ bits → Same m (quick m bits a n) (a ^ n)
quick_power m zero a n h = let e : n ≡ 0 = omega arith in same_eq (sym (rw e (pow-zero a)))
quick_power m (suc bits) a n h =
    let s : ℕ = quick m bits a (n / 2) in
    let half : Same m s (a ^ (n / 2)) = quick_power m bits a (n / 2) (omega arith) in
    let twice : a ^ (n / 2 + n / 2 + n % 2) ≡ a ^ (n / 2) * a ^ (n / 2) * a ^ (n % 2)
    = pow-add a (n / 2 + n / 2) (n % 2) ∙ ap (λ (x : ℕ). x * a ^ (n % 2)) (pow-add a (n / 2) (n / 2)) in
    rest_of m (s * s * a ^ (n % 2))
    then products (products half half) (same (a ^ (n % 2)))
    then same_eq (sym twice ∙ ap (λ (k : ℕ). a ^ k) (omega arith))
