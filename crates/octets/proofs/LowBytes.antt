-- Laws of a number's big-endian bytes: the lowest of them are its lowest bytes, and all are zero exactly for 0.
use mathlib.Core.Path.{◌≡◌, refl, ap, ◌∙◌}
use mathlib.Core.Bool.{Bool, true, false, ◌&&◌}
use mathlib.Core.List.{List, [], ◌∷◌, ◌++◌}
use Prim.Native.Nat.{ℕ, zero, suc, ◌+◌, ◌/◌, ◌%◌, ◌^◌, ◌≤◌, ◌<◌}
use native.Mathlib.Omega.{arith}
use lib.Dec.{eqb}
use lib.ListN.{length, drop, drop_of_length-le}
use lib.Seq.{drop-append-le}
use borrow.Author.Tests.{eqb-true, eq-eqb}
use Rattle.laws.specs.Bytes.{big_endian, all_zero}
use Rattle.laws.proofs.BigEndian.{length_big_endian}
use Rattle.laws.proofs.Flags.{and_left, and_right, agree}

-- the k lowest bytes of j + k
pub drop_big_endian : (j k n : ℕ) → drop j (big_endian (j + k) n) ≡ big_endian k n
unfolding big_endian
drop_big_endian j zero n =
    let all : length (big_endian (j + zero) n) ≤ j = omega (arith, length_big_endian (j + zero) n) in
    drop_of_length-le (big_endian (j + zero) n) all
drop_big_endian j (suc k) n =
    let e : j + suc k ≡ suc (j + k) = omega arith in
    rw e
    (drop-append-le j (big_endian (j + k) (n / 256)) (n % 256 ∷ []) (omega (arith, length_big_endian (j + k) (n / 256)))
    ∙ ap (λ (l : List ℕ). l ++ (n % 256 ∷ [])) (drop_big_endian j k (n / 256)))

-- one byte more
and_true : (a : Bool) → a && true ≡ a
and_true true = refl
and_true false = refl

and_assoc : (a b c : Bool) → a && (b && c) ≡ (a && b) && c
and_assoc true b c = refl
and_assoc false b c = refl

all_zero_append : (l : List ℕ) (b : ℕ) → all_zero (l ++ (b ∷ [])) ≡ (all_zero l && eqb b 0)
unfolding all_zero
all_zero_append [] b = and_true (eqb b 0)
all_zero_append (x ∷ xs) b = rw (all_zero_append xs b) (and_assoc (eqb x 0) (all_zero xs) (eqb b 0))

zero_digits : (n : ℕ) → (eqb (n / 256) 0 && eqb (n % 256) 0) ≡ eqb n 0
zero_digits n =
    agree (eqb (n / 256) 0 && eqb (n % 256) 0) (eqb n 0)
    (λ e. eq-eqb n 0 (omega (arith, eqb-true (n / 256) 0 (and_left _ _ e), eqb-true (n % 256) 0 (and_right (eqb (n / 256) 0) _ e))))
    (λ e. let z : n ≡ 0 = eqb-true n 0 e in rw z)

-- of a number that fits
pub zero_big_endian : (k n : ℕ) → n < 256 ^ k → all_zero (big_endian k n) ≡ eqb n 0
unfolding big_endian all_zero
zero_big_endian zero n h = let z : n ≡ 0 = omega arith in rw z
zero_big_endian (suc k) n h =
    all_zero_append (big_endian k (n / 256)) (n % 256)
    ∙ ap (λ (b : Bool). b && eqb (n % 256) 0) (zero_big_endian k (n / 256) (omega arith))
    ∙ zero_digits n
