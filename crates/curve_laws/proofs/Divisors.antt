-- A number is prime if each of its prime divisors has a square above it: its least divisor above 1 is prime, and if that is not the
-- number itself then the quotient is no smaller. From this, primality of small numbers by trial division.
use mathlib.Core.Path.{◌≡◌, sym, ap, subst, ◌∙◌}
use mathlib.Core.Logic.{◌≢◌}
use mathlib.Core.Bool.{Bool, true, not, ◌&&◌}
use Prim.Native.Nat.{ℕ, zero, suc, ◌+◌, ◌-◌, ◌*◌, ◌/◌, ◌%◌, ◌≤◌, ◌<◌, ◌∣◌}
use native.Mathlib.Omega.{arith}
use native.Mathlib.Decide.{dec_lt, ℕ_discrete}
use native.Mathlib.Nat.{mod_self, mod-mod_of_dvd, mod-eq-zero_of_dvd, dvd_of_mod-eq-zero, dvd_trans, div-add-mod', mul-mod_right, mul-le-mul, mul-le-mul_right}
use lib.Dec.{T, eqb, ltb, ltb→lt, T_not}
use Rattle.curve_laws.specs.Valid.{Prime}
use Rattle.curve_laws.proofs.Tests.{both}
use Rattle.curve_laws.proofs.Modular.{Same}

-- what holds modulo n holds modulo its divisors
pub modulo_divisor : {n a b : ℕ} (d : ℕ) → n % d ≡ 0 → Same n a b → Same d a b
modulo_divisor {n} {a} {b} d e h =
    let divides : d ∣ n = dvd_of_mod-eq-zero d e in
    record { rest = sym (mod-mod_of_dvd d a divides) ∙ ap (λ (m : ℕ). m % d) h.rest ∙ mod-mod_of_dvd d b divides }

pub divides_through : (n d e : ℕ) → n % d ≡ 0 → d % e ≡ 0 → n % e ≡ 0
divides_through n d e h k = mod-eq-zero_of_dvd e (dvd_trans e (dvd_of_mod-eq-zero e k) (dvd_of_mod-eq-zero d h))

pub record Least (n : ℕ) : Type 0 where
  pub divisor : ℕ
  pub above_one : 1 < divisor
  pub at_most : divisor ≤ n
  pub divides : n % divisor ≡ 0
  pub none_before : (e : ℕ) → 1 < e → e < divisor → n % e ≢ 0

-- going up from d, below which there is none
least_from : (n fuel d : ℕ) → d + fuel ≡ n → 1 < d → ((e : ℕ) → 1 < e → e < d → n % e ≢ 0) → Least n
least_from n zero d f h none =
    let e : d ≡ n = omega arith in
    record { divisor = d; above_one = h; at_most = omega arith; divides = ap (λ (m : ℕ). n % m) e ∙ mod_self n; none_before = none }
least_from n (suc fuel) d f h none = go (ℕ_discrete (n % d) 0) (least_from n fuel (suc d) (omega arith) (omega arith))
  where
    go : Dec (n % d ≡ 0) → (((e : ℕ) → 1 < e → e < suc d → n % e ≢ 0) → Least n) → Least n
    go (yes q) later = record { divisor = d; above_one = h; at_most = omega arith; divides = q; none_before = none }
    go (no q) later = later (λ e k l. step e k (dec_lt e d) l)
      where
        step : (e : ℕ) → 1 < e → Dec (e < d) → e < suc d → n % e ≢ 0
        step e k (yes m) l = none e k m
        step e k (no m) l = λ z. let same : e ≡ d = omega arith in q (ap (λ (c : ℕ). n % c) (sym same) ∙ z)

least : (n : ℕ) → 1 < n → Least n
least n h = least_from n (n - 2) 2 (omega arith) (omega arith) (λ e k l. absurd (omega arith))

-- the least divisor d, unless it is n, is at most the quotient q
square_below : (n d q : ℕ) → q * d ≡ n → d ≢ n → 1 < d → 0 < n → ((e : ℕ) → 1 < e → e < d → n % e ≢ 0) → d * d ≤ n
square_below n d zero w other h p none = absurd (omega (arith, w))
square_below n d (suc zero) w other h p none = absurd (other (omega (arith, w)))
square_below n d (suc (suc k)) w other h p none = go (dec_lt (suc (suc k)) d)
  where
    go : Dec (suc (suc k) < d) → d * d ≤ n
    go (yes l) =
        absurd (none (suc (suc k)) (omega arith) l (ap (λ (m : ℕ). m % suc (suc k)) (sym w) ∙ mul-mod_right (suc (suc k)) d))
    go (no l) = let below : d ≤ suc (suc k) = omega arith in rw w at (mul-le-mul_right d below)

pub prime_by_squares : (n : ℕ) → 1 < n → ((d : ℕ) → Prime d → n % d ≡ 0 → n < d * d) → Prime n
prime_by_squares n h large = go (least n h)
  where
    go : Least n → Prime n
    go L = decide (ℕ_discrete L.divisor n)
      where
        prime : Prime L.divisor
        prime =
            record {
              above_one = L.above_one;
              indivisible = λ e k l z. L.none_before e k l (divides_through n L.divisor e L.divides z);
            }

        decide : Dec (L.divisor ≡ n) → Prime n
        decide (yes e) = rw e at prime
        decide (no e) =
            let whole : n / L.divisor * L.divisor ≡ n = omega (arith, div-add-mod' n L.divisor, L.divides) in
            let below : L.divisor * L.divisor ≤ n
            = square_below n L.divisor (n / L.divisor) whole e L.above_one (omega arith) L.none_before in
            let above : n < L.divisor * L.divisor = large L.divisor prime L.divides in
            absurd (omega arith)

root : (a b : ℕ) → a * a < b * b → a < b
root a b h = go (dec_lt a b)
  where
    go : Dec (a < b) → a < b
    go (yes q) = q
    go (no q) = let l : b ≤ a = omega arith in absurd (omega (arith, mul-le-mul l l))

-- none of the k numbers from 2 on divides n
abbrev pub undivided : ℕ → ℕ → Bool
undivided n zero = true
undivided n (suc k) = not (eqb (n % (k + 2)) 0) && undivided n k

undivided_at : (n k d : ℕ) → T (undivided n k) → 1 < d → d < k + 2 → n % d ≢ 0
undivided_at n zero d t h l = absurd (omega arith)
undivided_at n (suc k) d t h l = go (dec_lt d (k + 2)) (undivided_at n k d tests.1 h)
  where
    tests : T (not (eqb (n % (k + 2)) 0)) × T (undivided n k)
    tests = both (not (eqb (n % (k + 2)) 0)) (undivided n k) t

    go : Dec (d < k + 2) → (d < k + 2 → n % d ≢ 0) → n % d ≢ 0
    go (yes q) ih = ih q
    go (no q) ih = λ z.
        let here : d ≡ k + 2 = omega arith in
        let zero-here : n % (k + 2) ≡ 0 = ap (λ (m : ℕ). n % m) (sym here) ∙ z in
        T_not (eqb (n % (k + 2)) 0) tests.0 (subst (λ (r : ℕ). T (eqb r 0)) (sym zero-here) tt)

-- trial division by k numbers, enough for n below the square of the next; antt computes it
abbrev pub Tried : ℕ → ℕ → Type 0
Tried n k = T (ltb 1 n) × T (ltb n ((k + 2) * (k + 2))) × T (undivided n k)

pub prime_by_trial : (n k : ℕ) → Tried n k → Prime n
prime_by_trial n k t = prime_by_squares n (ltb→lt 1 n t.0) (λ d P z. go d P z (dec_lt n (d * d)))
  where
    go : (d : ℕ) → Prime d → n % d ≡ 0 → Dec (n < d * d) → n < d * d
    go d P z (yes q) = q
    go d P z (no q) =
        let below : n < (k + 2) * (k + 2) = ltb→lt n ((k + 2) * (k + 2)) t.1 in
        let small : d < k + 2 = root d (k + 2) (omega arith) in
        absurd (undivided_at n k d t.2 P.above_one small z)
