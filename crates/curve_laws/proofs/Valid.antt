-- SECP160R1 and SECP256R1 are valid curves. antt computes what is a test of numbers; that n times G is infinity, by the binary method.
use mathlib.Core.Path.{◌≡◌, refl, sym, ap, subst, ◌∙◌}
use mathlib.Core.Logic.{◌≢◌}
use Prim.Native.Nat.{ℕ, ◌+◌, ◌^◌, ◌<◌}
use native.Mathlib.Omega.{arith}
use lib.Dec.{T, ltb, ltb→lt, eqb}
use Rattle.curve_laws.specs.Modulo.{plus, times, minus}
use Rattle.curve_laws.specs.Points.{Point, infinity, at, x_of, y_of, OnCurve, equation, discriminant, total}
use Rattle.curve_laws.specs.Curves.{Curve, SECP160R1, SECP256R1, times_g}
use Rattle.curve_laws.specs.Valid.{Prime, Valid}
use Rattle.curve_laws.proofs.Modular.{Same, same_eq, ◌then◌, rest_of, multiple_of}
use Rattle.curve_laws.proofs.Field.{NonZero, positive, below_zero}
use Rattle.curve_laws.proofs.Modulo.{plus_below}
use Rattle.curve_laws.proofs.Primes.{p160_prime, p256_prime, n160_prime, n256_prime}
use Rattle.curve_laws.proofs.Jacobian.{double_m, double_s, double_x, double_z, last_y, fourth_y, double_with, doubled, add_h, add_r, add_x, add_with, added, turn, binary}
use Rattle.curve_laws.proofs.Known.{multiple_known}

above_zero : {n : ℕ} → T (ltb 0 n) → n ≢ 0
above_zero {n} t e = let l : 0 < n = ltb→lt 0 n t in omega arith

-- a = p - 3, modulo p
pub minus_three : {p : ℕ} (a : ℕ) → a + 3 ≡ p → Same p (plus p a 3) 0
unfolding plus
minus_three {p} a e = rest_of p (a + 3) then same_eq (e ∙ omega arith) then multiple_of p 1

pub discriminant_nonzero : {p : ℕ} (a b : ℕ) → Prime p → discriminant p a b ≢ 0 → NonZero p (discriminant p a b)
unfolding discriminant
discriminant_nonzero {p} a b P n z =
    n (below_zero (plus_below (positive P) (times p 4 (times p a (times p a a))) (times p 27 (times p b b))) z)

-- what antt computes for a curve with a = p - 3, where n has so many bits
abbrev pub Computed : Curve → ℕ → Type 0
Computed c bits =
    let x = x_of c.G in
    let y = y_of c.G in
    T (ltb 2 c.p) × T (ltb c.a c.p) × T (ltb c.b c.p) × T (ltb x c.p) × T (ltb y c.p) × equation c.p c.a c.b x y
    × T (ltb 0 (discriminant c.p c.a c.b)) × T (ltb c.n (2 ^ bits)) × T (eqb (binary c.p x y bits c.n).Z 0)

-- an infinite point has no coordinates
finite : (x y : ℕ) → at x y ≢ infinity
finite x y e = let z : ◌≡◌ {A = ℕ} 0 1 = cc in omega arith

pub valid : (c : Curve) (bits : ℕ) → c.G ≡ at (x_of c.G) (y_of c.G) → c.a + 3 ≡ c.p → Prime c.p → Prime c.n → Computed c bits → Valid c
unfolding times_g
valid c bits e three P N t =
    let x : ℕ = x_of c.G in
    let y : ℕ = y_of c.G in
    let odd : 2 < c.p = ltb→lt 2 c.p t.0 in
    let on : OnCurve c.p c.a c.b (at x y) = (ltb→lt x c.p t.3, ltb→lt y c.p t.4, t.5) in
    let smooth : discriminant c.p c.a c.b ≢ 0 = above_zero t.6 in
    record {
      prime = P;
      odd = odd;
      a_below = ltb→lt c.a c.p t.1;
      b_below = ltb→lt c.b c.p t.2;
      base_finite = λ none. finite x y (sym e ∙ none);
      base = subst (λ (Q : Point). OnCurve c.p c.a c.b Q) (sym e) on;
      smooth = smooth;
      order_prime = N;
      order =
          ap (λ (Q : Point). total c.p c.a c.n Q) e
          ∙ multiple_known P odd c.a c.b (minus_three c.a three) (discriminant_nonzero c.a c.b P smooth) x y on bits c.n
          (ltb→lt c.n (2 ^ bits) t.7) infinity t.8;
    }

-- a = p - 3
pub three160 : SECP160R1.a + 3 ≡ SECP160R1.p
unfolding SECP160R1
three160 = refl

pub three256 : SECP256R1.a + 3 ≡ SECP256R1.p
unfolding SECP256R1
three256 = refl

pub valid160 : Valid SECP160R1
unfolding SECP160R1 x_of y_of discriminant equation plus times minus double_m double_s double_x double_z last_y fourth_y double_with doubled add_h add_r add_x add_with added turn binary
valid160 = valid SECP160R1 161 refl three160 p160_prime n160_prime (tt, tt, tt, tt, tt, refl, tt, tt, tt)

pub valid256 : Valid SECP256R1
unfolding SECP256R1 x_of y_of discriminant equation plus times minus double_m double_s double_x double_z last_y fourth_y double_with doubled add_h add_r add_x add_with added turn binary
valid256 = valid SECP256R1 256 refl three256 p256_prime n256_prime (tt, tt, tt, tt, tt, refl, tt, tt, tt)
