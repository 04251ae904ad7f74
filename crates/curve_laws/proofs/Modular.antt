-- Equality modulo m, as a record so that its numbers are inferred: an equivalence that sums, products and powers respect. Multiples of m
-- vanish, and what is added on both sides cancels.
use mathlib.Core.Path.{◌≡◌, refl, sym, ap, ◌∙◌}
use Prim.Native.Nat.{ℕ, zero, suc, ◌+◌, ◌-◌, ◌*◌, ◌/◌, ◌%◌, ◌^◌, ◌<◌}
use native.Mathlib.Omega.{arith}
use native.Mathlib.Nat.{mod-lt, mod-mod, mod-eq_of_lt, mod-add-mod, div-add-mod', add-mul-mod_self_right, pow-zero, pow-suc}

pub record Same (m a b : ℕ) : Type 0 where
  pub rest : a % m ≡ b % m

pub same : {m : ℕ} (a : ℕ) → Same m a a
same a = record { rest = refl }

pub same_eq : {m a b : ℕ} → a ≡ b → Same m a b
same_eq {m} e = record { rest = ap (λ (n : ℕ). n % m) e }

pub back : {m a b : ℕ} → Same m a b → Same m b a
back h = record { rest = sym h.rest }

pub ◌then◌ : {m a b c : ℕ} → Same m a b → Same m b c → Same m a c
◌then◌ h k = record { rest = h.rest ∙ k.rest }

infixl 20 ◌then◌
-- a remainder stands for its number
pub rest_of : (m a : ℕ) → Same m (a % m) a
rest_of m a = record { rest = mod-mod a m }

-- multiples of m vanish
pub drops : (m a k : ℕ) → Same m (a + k * m) a
drops m a k = record { rest = add-mul-mod_self_right a k m }

pub multiple_of : (m k : ℕ) → Same m (k * m) 0
multiple_of m k = same_eq (omega arith) then drops m 0 k

-- equal below m, equal at all
pub equal_below : {m a b : ℕ} → Same m a b → a < m → b < m → a ≡ b
equal_below h p q = sym (mod-eq_of_lt p) ∙ h.rest ∙ mod-eq_of_lt q

plus_left : {m a b : ℕ} (c : ℕ) → Same m a b → Same m (a + c) (b + c)
plus_left {m} {a} {b} c h =
    record { rest = sym (mod-add-mod a m c) ∙ ap (λ (n : ℕ). (n + c) % m) h.rest ∙ mod-add-mod b m c }

times_rest : (m a c : ℕ) → Same m (a * c) (a % m * c)
times_rest m a c =
    let e : a * c ≡ a % m * c + a / m * c * m = ap (λ (n : ℕ). n * c) (sym (div-add-mod' a m)) ∙ omega arith in
    same_eq e then drops m (a % m * c) (a / m * c)

times_left : {m a b : ℕ} (c : ℕ) → Same m a b → Same m (a * c) (b * c)
times_left {m} {a} {b} c h = times_rest m a c then same_eq (ap (λ (n : ℕ). n * c) h.rest) then back (times_rest m b c)

pub sums : {m a b c d : ℕ} → Same m a b → Same m c d → Same m (a + c) (b + d)
sums {a = a} {b = b} {c = c} {d = d} h k =
    plus_left c h then same_eq (omega arith) then plus_left b k then same_eq (omega arith)

pub products : {m a b c d : ℕ} → Same m a b → Same m c d → Same m (a * c) (b * d)
products {a = a} {b = b} {c = c} {d = d} h k =
    times_left c h then same_eq (omega arith) then times_left b k then same_eq (omega arith)

pub powers : {m a b : ℕ} → Same m a b → (n : ℕ) → Same m (a ^ n) (b ^ n)
powers {a = a} {b = b} h zero = same_eq (pow-zero a ∙ sym (pow-zero b))
powers {a = a} {b = b} h (suc n) = same_eq (pow-suc a n) then products (powers h n) h then same_eq (sym (pow-suc b n))

-- what lacks to a multiple of m, and cancelling by it
lack : (m c : ℕ) → 0 < m → (k : ℕ) × (c + k ≡ (c / m + 1) * m)
lack m c p = let l : c % m < m = mod-lt c p in let e : c / m * m + c % m ≡ c = div-add-mod' c m in (m - c % m, omega arith)

pub cancel_sum : {m a b : ℕ} (c : ℕ) → 0 < m → Same m (a + c) (b + c) → Same m a b
cancel_sum {m} {a} {b} c p h =
    let k : ℕ = (lack m c p).0 in
    let e : c + k ≡ (c / m + 1) * m = (lack m c p).1 in
    let whole : (n : ℕ) → Same m (n + c + k) n
    = λ n. same_eq (omega (arith, e)) then drops m n (c / m + 1) in
    back (whole a) then sums h (same k) then whole b
