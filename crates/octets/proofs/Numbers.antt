-- Reading big-endian bytes as a number, a byte a turn, and the number of a number's own bytes.
use mathlib.Core.Path.{◌≡◌, refl, ◌∙◌}
use mathlib.Core.List.{List, [], ◌∷◌, ◌++◌}
use Prim.Native.Nat.{ℕ, zero, suc, ◌+◌, ◌*◌, ◌/◌, ◌%◌, ◌^◌, ◌≤◌, ◌<◌}
use native.Mathlib.Nat.{pow-suc, pow-le-pow_right}
use native.Mathlib.Numerals.{add-one}
use native.Mathlib.Omega.{arith}
use lib.ListN.{length, get_or, take, drop, length-drop}
use lib.Seq.{drop-cons, length-take-le}
use mir.Val.{Fits}
use mir.Syntax.{w64}
use Rattle.laws.specs.Bytes.{number, number_after, big_endian}
use Rattle.octets.specs.Put.{Reads}

pow_next : (i : ℕ) → 256 ^ (i + 1) ≡ 256 ^ i * 256
pow_next i = rw add-one (pow-suc 256 i)

-- one byte more
pub number_grows : (n i b : ℕ) → n < 256 ^ i → b < 256 → n * 256 + b < 256 ^ (i + 1)
number_grows n i b h hb = rw (pow_next i) (omega arith)

pub number_below : (n i b : ℕ) → i < 8 → n < 256 ^ i → b < 256 → Fits w64 (n * 256 + b)
number_below n i b hi h hb =
    let most : i ≤ 7 = omega arith in
    let m : 256 ^ i ≤ 256 ^ 7 = pow-le-pow_right (omega arith) most in
    record { fits = omega arith }

pub number_next : (n : ℕ) (part : List ℕ) (i : ℕ) → i < length part
    → number_after (n * 256 + get_or part i 0) (drop (i + 1) part) ≡ number_after n (drop i part)
unfolding number_after
number_next n part i h = rw (add-one, drop-cons part i 0 h)

-- the number that n bytes from a place on are
pub small_number : {x : ℕ} (b : List ℕ) (from n : ℕ) → from + n ≤ length b → Reads (take n (drop from b)) x → x < 256 ^ n
small_number {x} b from n h r =
    let enough : n ≤ length (drop from b) = omega (arith, length-drop from b) in
    rw (length-take-le n (drop from b) enough) at r.small

after_append : (v : ℕ) (xs ys : List ℕ) → number_after v (xs ++ ys) ≡ number_after (number_after v xs) ys
unfolding number_after
after_append v [] ys = refl
after_append v (x ∷ xs) ys = after_append (v * 256 + x) xs ys

-- the number of a number's own bytes
pub number_big_endian : (k n : ℕ) → n < 256 ^ k → number (big_endian k n) ≡ n
unfolding number number_after big_endian
number_big_endian zero n h = omega arith
number_big_endian (suc k) n h =
    let m : n < 256 ^ k * 256 = rw pow-suc at h in
    let few : n / 256 < 256 ^ k = omega arith in
    let ih : number (big_endian k (n / 256)) ≡ n / 256 = number_big_endian k (n / 256) few in
    after_append 0 (big_endian k (n / 256)) (n % 256 ∷ []) ∙ rw ih (omega arith)
