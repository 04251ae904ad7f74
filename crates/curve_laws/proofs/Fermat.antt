-- Fermat: a to the p is a modulo a prime p. Pascal's recursion gives the powers of a + 1 as sums over k of choose p k times a to the k;
-- since (k + 1) choose (n + 1) (k + 1) = (n + 1) choose n k, all of them but the first and the last vanish modulo p.
use mathlib.Core.Path.{◌≡◌, refl, sym, ap, ◌∙◌}
use mathlib.Core.Logic.{◌≢◌}
use Prim.Native.Nat.{ℕ, zero, suc, ◌+◌, ◌-◌, ◌*◌, ◌%◌, ◌^◌, ◌≤◌, ◌<◌}
use native.Mathlib.Omega.{arith}
use native.Mathlib.Nat.{mod-eq_of_lt, pow-zero, pow-suc, mul-zero}
use Rattle.curve_laws.specs.Valid.{Prime}
use Rattle.curve_laws.proofs.Modular.{Same, same, same_eq, ◌then◌, multiple_of, sums, products}
use Rattle.curve_laws.proofs.Prime.{no_zero_product, cancel_factor}

choose : ℕ → ℕ → ℕ
choose n zero = 1
choose zero (suc k) = 0
choose (suc n) (suc k) = choose n k + choose n (suc k)

choose_first : (n : ℕ) → choose n zero ≡ 1
unfolding choose
choose_first zero = refl
choose_first (suc n) = refl

choose_above : (n k : ℕ) → n < k → choose n k ≡ 0
unfolding choose
choose_above zero zero h = absurd (omega arith)
choose_above zero (suc k) h = refl
choose_above (suc n) zero h = absurd (omega arith)
choose_above (suc n) (suc k) h =
    let e : choose n k ≡ 0 = choose_above n k (omega arith) in
    let f : choose n (suc k) ≡ 0 = choose_above n (suc k) (omega arith) in
    omega arith

choose_last : (n : ℕ) → choose n n ≡ 1
unfolding choose
choose_last zero = refl
choose_last (suc n) =
    let e : choose n n ≡ 1 = choose_last n in
    let f : choose n (suc n) ≡ 0 = choose_above n (suc n) (omega arith) in
    omega arith

choose_step : (n k : ℕ) → choose (suc n) (suc k) ≡ choose n k + choose n (suc k)
unfolding choose
choose_step n k = refl

choose_zero : (k : ℕ) → choose zero (suc k) ≡ 0
unfolding choose
choose_zero k = refl

absorbs : (n k : ℕ) → suc k * choose (suc n) (suc k) ≡ suc n * choose n k
absorbs zero zero = rw (choose_step, choose_first, choose_zero)
absorbs zero (suc k) = rw (choose_step, choose_zero k, choose_zero (suc k)) (mul-zero (suc (suc k)))
absorbs (suc n) zero =
    let ih : 1 * choose (suc n) 1 ≡ suc n * choose n zero = absorbs n zero in
    let e : choose (suc (suc n)) 1 ≡ choose (suc n) zero + choose (suc n) 1 = choose_step (suc n) zero in
    let one : choose n zero ≡ 1 = choose_first n in
    let one_more : choose (suc n) zero ≡ 1 = choose_first (suc n) in
    omega (arith, ap (λ (c : ℕ). suc n * c) one, ap (λ (c : ℕ). suc (suc n) * c) one_more)
absorbs (suc n) (suc k) =
    let low : suc k * choose (suc n) (suc k) ≡ suc n * choose n k = absorbs n k in
    let high : suc (suc k) * choose (suc n) (suc (suc k)) ≡ suc n * choose n (suc k) = absorbs n (suc k) in
    let e : choose (suc (suc n)) (suc (suc k)) ≡ choose (suc n) (suc k) + choose (suc n) (suc (suc k)) = choose_step (suc n) (suc k) in
    omega
    (arith, ap (λ (c : ℕ). suc (suc k) * c) e, ap (λ (c : ℕ). suc n * c) (choose_step n k))

-- the sum of choose n k times a to the k, over k below m
partial : ℕ → ℕ → ℕ → ℕ
partial n a zero = 0
partial n a (suc m) = partial n a m + choose n m * a ^ m

partial_step : (n a m : ℕ) → partial n a (suc m) ≡ partial n a m + choose n m * a ^ m
unfolding partial
partial_step n a m = refl

partial_first : (n a : ℕ) → partial n a 1 ≡ 1
unfolding partial
partial_first n a = rw (choose_first, pow-zero)

pascal : (n a m : ℕ) → partial (suc n) a (suc m) ≡ partial n a (suc m) + a * partial n a m
unfolding partial
pascal n a zero = rw (choose_first, choose_first) (omega arith)
pascal n a (suc m) =
    let ih : partial (suc n) a (suc m) ≡ partial n a (suc m) + a * partial n a m = pascal n a m in
    let x : ℕ = a ^ m in
    let up : a ^ suc m ≡ x * a = pow-suc a m in
    omega (
      arith,
      ap (λ (y : ℕ). choose (suc n) (suc m) * y) up,
      ap (λ (y : ℕ). choose n (suc m) * y) up,
      ap (λ (c : ℕ). c * (x * a)) (choose_step n m),
    )

-- the binomial theorem for a + 1
binomial : (n a : ℕ) → (a + 1) ^ n ≡ partial n a (suc n)
binomial zero a = pow-zero (a + 1) ∙ sym (partial_first zero a)
binomial (suc n) a =
    let s : ℕ = partial n a (suc n) in
    let ih : (a + 1) ^ n ≡ s = binomial n a in
    let end : partial n a (suc (suc n)) ≡ s + choose n (suc n) * a ^ suc n = partial_step n a (suc n) in
    let none : choose n (suc n) * a ^ suc n ≡ 0 = ap (λ (c : ℕ). c * a ^ suc n) (choose_above n (suc n) (omega arith)) ∙ omega arith in
    let whole : partial (suc n) a (suc (suc n)) ≡ partial n a (suc (suc n)) + a * s = pascal n a (suc n) in
    let up : (a + 1) ^ suc n ≡ (a + 1) ^ n * (a + 1) = pow-suc (a + 1) n in
    omega (arith, ap (λ (y : ℕ). y * (a + 1)) ih)

module _ (n : ℕ) (P : Prime (suc n)) where
  -- between the ends p divides choose p k
  vanishes : (k : ℕ) → k < n → Same (suc n) (choose (suc n) (suc k)) 0
  vanishes k h =
      let some : suc k % suc n ≢ 0 = λ e. let f : suc k ≡ 0 = sym (mod-eq_of_lt (omega arith)) ∙ e in omega arith in
      no_zero_product P (suc k) (choose (suc n) (suc k)) some
      (same_eq (absorbs n k ∙ omega arith) then multiple_of (suc n) (choose n k))

  partial_one : (a m : ℕ) → m ≤ n → Same (suc n) (partial (suc n) a (suc m)) 1
  partial_one a zero h = same_eq (partial_first (suc n) a)
  partial_one a (suc m) h =
      same_eq (partial_step (suc n) a (suc m))
      then sums (partial_one a m (omega arith)) (products (vanishes m (omega arith)) (same (a ^ suc m)))
      then same_eq (omega arith)

  one_more : (a : ℕ) → Same (suc n) ((a + 1) ^ suc n) (a ^ suc n + 1)
  one_more a =
      same_eq (binomial (suc n) a ∙ partial_step (suc n) a (suc n))
      then sums (partial_one a n (omega arith)) (same_eq (ap (λ (c : ℕ). c * a ^ suc n) (choose_last (suc n))))
      then same_eq (omega arith)

  all_powers : (a : ℕ) → Same (suc n) (a ^ suc n) a
  all_powers zero = same_eq (pow-suc 0 n ∙ mul-zero (0 ^ n))
  all_powers (suc a) =
      same_eq (ap (λ (b : ℕ). b ^ suc n) (omega arith)) then one_more a then sums (all_powers a) (same 1) then same_eq (omega arith)

pub fermat : (p : ℕ) → Prime p → (a : ℕ) → Same p (a ^ p) a
fermat zero P a = absurd (let m : 1 < 0 = P.above_one in omega arith)
fermat (suc n) P a = all_powers n P a

-- for a other than 0, one factor cancels
pub fermat_one : (p : ℕ) → Prime p → (a : ℕ) → a % p ≢ 0 → Same p (a ^ (p - 1)) 1
fermat_one p P a h =
    let m : 1 < p = P.above_one in
    let e : suc (p - 1) ≡ p = omega arith in
    cancel_factor P a h
    (same_eq (omega (arith, pow-suc a (p - 1)) ∙ ap (λ (n : ℕ). a ^ n) e) then fermat p P a then same_eq (omega arith))
