-- Small multiples, as the code comes to them, by sums.
use mathlib.Core.Path.{◌≡◌, ap}
use Prim.Native.Nat.{ℕ, ◌+◌, ◌*◌, ◌%◌}
use native.Mathlib.Omega.{arith}
use Rattle.curve_laws.specs.Modulo.{plus, times}
use Rattle.curve_laws.proofs.Modular.{same, same_eq, ◌then◌, rest_of, products, sums}

pub two : (p a : ℕ) → plus p a a ≡ times p 2 a
unfolding plus times
two p a = ap (λ (k : ℕ). k % p) (omega arith)

pub three : (p a : ℕ) → plus p (times p 2 a) a ≡ times p 3 a
unfolding plus times
three p a =
    let whole : 2 * a + a ≡ 3 * a = omega arith in
    (sums (rest_of p (2 * a)) (same a) then same_eq whole).rest

fold : (p k l a : ℕ) → times p k (times p l a) ≡ times p (k * l) a
unfolding times
fold p k l a =
    let whole : k * (l * a) ≡ k * l * a = omega arith in
    (products (same k) (rest_of p (l * a)) then same_eq whole).rest

pub four : (p a : ℕ) → times p 2 (times p 2 a) ≡ times p 4 a
four p a = fold p 2 2 a

pub eight : (p a : ℕ) → times p 2 (times p 4 a) ≡ times p 8 a
eight p a = fold p 2 4 a
