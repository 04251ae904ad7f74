-- Pocklington: n is prime if, for a prime f with n below f², some b has b^f = 1 and b - 1 invertible modulo n: then f divides d - 1 for each
-- prime divisor d of n. With two primes f and g, n below (f g)² is enough. For a prime f of n - 1, b = a^((n - 1) / f) serves; antt computes the tests.
use mathlib.Core.Path.{◌≡◌, sym, ap, subst, ◌∙◌}
use mathlib.Core.Logic.{◌≢◌}
use mathlib.Core.Bool.{not}
use Prim.Native.Nat.{ℕ, zero, suc, ◌+◌, ◌-◌, ◌*◌, ◌/◌, ◌%◌, ◌^◌, ◌≤◌, ◌<◌}
use native.Mathlib.Omega.{arith}
use native.Mathlib.Decide.{ℕ_discrete}
use native.Mathlib.Nat.{div-add-mod', mod-eq_of_lt, mul-le-mul, mul-le-mul_left, pow-suc, mul-zero, zero-mod}
use lib.Pow.{pow-add}
use lib.Dec.{T, eqb, ltb, ltb→lt, eqb→eq, T_not}
use Rattle.curve_laws.specs.Valid.{Prime}
use Rattle.curve_laws.proofs.Modular.{Same, same, same_eq, back, ◌then◌, rest_of, products, powers, cancel_sum}
use Rattle.curve_laws.proofs.Prime.{inverts, no_zero_product}
use Rattle.curve_laws.proofs.Fermat.{fermat_one}
use Rattle.curve_laws.proofs.Powers.{one_power, power_power, power_one, quick, quick_power}
use Rattle.curve_laws.proofs.Divisors.{modulo_divisor, prime_by_squares}

-- b to the f is 1, and (b - 1) u = 1, modulo n
pub record Roots (n f b : ℕ) : Type 0 where
  pub root : Same n (b ^ f) 1
  pub undo : ℕ
  pub apart : Same n (b * undo) (1 + undo)

one_not_zero : (d : ℕ) → 1 < d → Same d 0 1 → ⊥
one_not_zero d h s =
    let e : 0 % d ≡ 1 % d = s.rest in
    let z : 0 % d ≡ 0 = mod-eq_of_lt (omega arith) in
    let o : 1 % d ≡ 1 = mod-eq_of_lt h in
    omega arith

-- Modulo a prime divisor d of n, b is such a root too. If f did not divide d - 1, then (d - 1) v = 1 + w f for some v and w, and b would be
-- b^((d - 1) v) = 1
module _ (n f b d : ℕ) (F : Prime f) (D : Prime d) (R : Roots n f b) (divides : n % d ≡ 0) where
  root_here : Same d (b ^ f) 1
  root_here = modulo_divisor d divides R.root

  not_zero : b % d ≢ 0
  not_zero z =
      let m : 1 < f = F.above_one in
      let e : suc (f - 1) ≡ f = omega arith in
      let vanish : Same d (b ^ f) 0
      = same_eq (ap (λ (k : ℕ). b ^ k) (sym e) ∙ pow-suc b (f - 1))
      then products (same (b ^ (f - 1))) (back (rest_of d b) then same_eq z)
      then same_eq (mul-zero (b ^ (f - 1))) in
      one_not_zero d D.above_one (back vanish then root_here)

  not_one : Same d b 1 → ⊥
  not_one h =
      let u : ℕ = R.undo in
      let m : 1 < d = D.above_one in
      one_not_zero d m
      (cancel_sum u (omega arith)
      (same_eq (omega arith) then products (back h) (same u) then modulo_divisor d divides R.apart))

  divides_order : (d - 1) % f ≡ 0
  divides_order = go (ℕ_discrete ((d - 1) % f) 0)
    where
      go : Dec ((d - 1) % f ≡ 0) → (d - 1) % f ≡ 0
      go (yes q) = q
      go (no q) =
          let v : ℕ = (inverts F (d - 1) q).by in
          let w : ℕ = (d - 1) * v / f in
          let m : 1 < f = F.above_one in
          let one : (d - 1) * v % f ≡ 1 = (inverts F (d - 1) q).gives_one.rest ∙ mod-eq_of_lt m in
          let split : w * f + (d - 1) * v % f ≡ (d - 1) * v = div-add-mod' ((d - 1) * v) f in
          let whole : (d - 1) * v ≡ f * w + 1 = omega (arith, split, one) in
          let left : Same d (b ^ ((d - 1) * v)) 1
          = same_eq (sym (power_power b (d - 1) v)) then powers (fermat_one d D b not_zero) v then same_eq (one_power v) in
          let right : Same d (b ^ ((d - 1) * v)) b
          = same_eq (ap (λ (k : ℕ). b ^ k) whole ∙ pow-add b (f * w) 1)
          then products (same_eq (sym (power_power b f w)) then powers root_here w then same_eq (one_power w)) (same_eq (power_one b))
          then same_eq (omega arith) in
          absurd (not_one (back right then left))

-- what is divisible by f, and not 0, is at least f
at_least : (c f : ℕ) → 0 < c → c % f ≡ 0 → f ≤ c
at_least c f h z = go (c / f) (let e : c / f * f + c % f ≡ c = div-add-mod' c f in omega (arith, e, z))
  where
    go : (q : ℕ) → q * f ≡ c → f ≤ c
    go zero e = absurd (omega (arith, e))
    go (suc q) e = omega (arith, e)

squares_above : (n f d : ℕ) → n < f * f → f ≤ d - 1 → n < d * d
squares_above n f d h l = let k : f ≤ d = omega arith in omega (arith, mul-le-mul k k)

-- both primes divide c, so their product does
product_divides : (f g c : ℕ) → Prime g → f % g ≢ 0 → c % f ≡ 0 → c % g ≡ 0 → 0 < c → f * g ≤ c
product_divides f g c G other hf hg h =
    let e : ℕ = c / f in
    let whole : f * e ≡ c = omega (arith, div-add-mod' c f, hf) in
    let through : Same g (f * e) 0 = record { rest = ap (λ (m : ℕ). m % g) whole ∙ hg ∙ sym (zero-mod g) } in
    let part : e % g ≡ 0 = (no_zero_product G f e other through).rest ∙ zero-mod g in
    let some : 0 < e = positive e (omega arith) in
    omega (arith, mul-le-mul_left f (at_least e g some part))
  where
    positive : (e : ℕ) → 0 < f * e → 0 < e
    positive zero q = absurd (omega (arith, q))
    positive (suc e) q = omega arith

-- The tests for a prime f of n - 1 and a base a: b = a^((n - 1) / f) has b^f = 1 modulo n, and u = (b - 1)^(n - 2), which is the inverse
-- of b - 1 if n is prime, is one
abbrev pub RootTests : ℕ → ℕ → ℕ → ℕ → ℕ → Type 0
RootTests bits n f b u = T (ltb f (2 ^ bits)) × T (eqb (quick n bits b f) (1 % n)) × T (eqb (b * u % n) ((1 + u) % n))

abbrev pub root_of : ℕ → ℕ → ℕ → ℕ → ℕ
root_of bits n f a = quick n bits a ((n - 1) / f)

abbrev pub undo_of : ℕ → ℕ → ℕ → ℕ
undo_of bits n b = quick n bits (b + (n - 1)) (n - 2)

abbrev pub Rooted : ℕ → ℕ → ℕ → ℕ → Type 0
Rooted bits n f a = RootTests bits n f (root_of bits n f a) (undo_of bits n (root_of bits n f a))

roots : (bits n f b u : ℕ) → RootTests bits n f b u → Roots n f b
roots bits n f b u t =
    let one : quick n bits b f ≡ 1 % n = eqb→eq (quick n bits b f) (1 % n) t.1 in
    record {
      root = back (quick_power n bits b f (ltb→lt f (2 ^ bits) t.0)) then same_eq one then rest_of n 1;
      undo = u;
      apart = record { rest = eqb→eq (b * u % n) ((1 + u) % n) t.2 };
    }

pub pocklington : (bits n f a : ℕ) → Prime f → Rooted bits n f a → T (ltb 1 n) → T (ltb n (f * f)) → Prime n
pocklington bits n f a F t above below =
    prime_by_squares n (ltb→lt 1 n above)
    (λ d D z.
    let m : 1 < d = D.above_one in
    squares_above n f d (ltb→lt n (f * f) below)
    (at_least (d - 1) f (omega arith)
    (divides_order n f (root_of bits n f a) d F D (roots bits n f (root_of bits n f a) (undo_of bits n (root_of bits n f a)) t) z)))

pub pocklington_two : (bits n f a g c : ℕ) → Prime f → Rooted bits n f a → Prime g → Rooted bits n g c → T (not (eqb (f % g) 0)) → T (ltb 1 n)
    → T (ltb n (f * g * (f * g))) → Prime n
pocklington_two bits n f a g c F s G t other above below =
    prime_by_squares n (ltb→lt 1 n above)
    (λ d D z.
    let m : 1 < d = D.above_one in
    squares_above n (f * g) d (ltb→lt n (f * g * (f * g)) below)
    (product_divides f g (d - 1) G apart
    (divides_order n f (root_of bits n f a) d F D (roots bits n f (root_of bits n f a) (undo_of bits n (root_of bits n f a)) s) z)
    (divides_order n g (root_of bits n g c) d G D (roots bits n g (root_of bits n g c) (undo_of bits n (root_of bits n g c)) t) z)
    (omega arith)))
  where
    apart : f % g ≢ 0
    apart z = T_not (eqb (f % g) 0) other (subst (λ (r : ℕ). T (eqb r 0)) (sym z) tt)
