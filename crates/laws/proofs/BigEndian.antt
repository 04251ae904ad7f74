-- Laws of big-endian bytes: how many there are, each one as a quotient, and the number of four.
use mathlib.Core.Path.{◌≡◌, refl, sym, ap, ◌∙◌}
use mathlib.Core.List.{List, [], ◌∷◌, ◌++◌}
use Prim.Native.Nat.{ℕ, zero, suc, ◌+◌, ◌-◌, ◌*◌, ◌/◌, ◌%◌, ◌^◌, ◌≤◌, ◌<◌}
use native.Mathlib.Nat.{div-one, div-div-eq-div-mul}
use native.Mathlib.Omega.{arith}
use native.Mathlib.Decide.{dec_lt}
use lib.ListN.{length, get_or, take, drop, length-append, get_or-append}
use lib.Seq.{get_or_at, drop-cons}
use lib.Pow.{shr-shr}
use Rattle.std.specs.Int.{w16, w32, w64, to_be_bytes, from_be_bytes}
use Rattle.laws.specs.Bytes.{big_endian, number, number_after}

pub length_big_endian : (k n : ℕ) → length (big_endian k n) ≡ k
unfolding big_endian
length_big_endian zero n = refl
length_big_endian (suc k) n =
    let e : length (big_endian k (n / 256)) ≡ k = length_big_endian k (n / 256) in
    omega (arith, length-append (big_endian k (n / 256)) (n % 256 ∷ []))

pub get_or_big_endian : (k n i : ℕ) → i < k → get_or (big_endian k n) i 0 ≡ n / 2 ^ (8 * (k - 1 - i)) % 256
unfolding big_endian
get_or_big_endian zero n i h = absurd (omega arith)
get_or_big_endian (suc k) n i h = go (dec_lt i k) (get_or_big_endian k (n / 256) i)
  where
    go : Dec (i < k) → (i < k → get_or (big_endian k (n / 256)) i 0 ≡ n / 256 / 2 ^ (8 * (k - 1 - i)) % 256)
        → get_or (big_endian k (n / 256) ++ (n % 256 ∷ [])) i 0 ≡ n / 2 ^ (8 * (suc k - 1 - i)) % 256
    go (yes p) ih =
        let e : 8 * (suc k - 1 - i) ≡ 8 + 8 * (k - 1 - i) = omega arith in
        get_or-append (big_endian k (n / 256)) (n % 256 ∷ []) 0 i (rw length_big_endian p)
        ∙ ih p ∙ ap (λ (m : ℕ). m % 256) (shr-shr n 8 (8 * (k - 1 - i)) ∙ ap (λ (m : ℕ). n / 2 ^ m) (sym e))
    go (no q) ih =
        let e : 8 * (suc k - 1 - i) ≡ 0 = omega arith in
        get_or_at (big_endian k (n / 256)) (n % 256) [] 0 i (length_big_endian k (n / 256) ∙ omega arith)
        ∙ sym (rw (e, div-one))

-- the number of the four bytes from byte k on
pub number_four : (p : List ℕ) (k : ℕ) → k + 4 ≤ length p
    → number (take 4 (drop k p)) ≡ number (get_or p k 0 ∷ get_or p (k + 1) 0 ∷ get_or p (k + 2) 0 ∷ get_or p (k + 3) 0 ∷ [])
number_four p k h =
    let e1 : suc k ≡ k + 1 = omega arith in
    let e2 : suc (k + 1) ≡ k + 2 = omega arith in
    let e3 : suc (k + 2) ≡ k + 3 = omega arith in
    let all : drop k p ≡ get_or p k 0 ∷ get_or p (k + 1) 0 ∷ get_or p (k + 2) 0 ∷ get_or p (k + 3) 0 ∷ drop (suc (k + 3)) p
    = rw (drop-cons p k 0 (omega arith), e1, drop-cons p (k + 1) 0 (omega arith), e2, drop-cons p (k + 2) 0 (omega arith), e3, drop-cons p (k + 3) 0 (omega arith)) in
    ap (λ (l : List ℕ). number (take 4 l)) all

-- std's bytes of a number of 16, of 32 or of 64 bits, and its number of four bytes
pub two_bytes : (n : ℕ) → to_be_bytes w16 n ≡ big_endian 2 n
unfolding big_endian
two_bytes n = refl

pub four_bytes : (n : ℕ) → to_be_bytes w32 n ≡ big_endian 4 n
unfolding big_endian
four_bytes n = simp div-div-eq-div-mul

pub eight_bytes : (n : ℕ) → to_be_bytes w64 n ≡ big_endian 8 n
unfolding big_endian
eight_bytes n = simp div-div-eq-div-mul

pub of_four : (a b c d : ℕ) → from_be_bytes w32 (a ∷ b ∷ c ∷ d ∷ []) ≡ number (a ∷ b ∷ c ∷ d ∷ [])
unfolding number number_after
of_four a b c d = omega arith
