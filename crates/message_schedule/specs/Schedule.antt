-- The functions on words and the message schedule of SHA-256, as FIPS 180-4 defines them. Clause numbers are the standard's, and names where it has them.
use Rattle.std.specs.Prelude.{ℕ, zero, suc, ◌+◌, ◌-◌, ◌*◌, ◌/◌, ◌%◌, ◌^◌, List, [], ◌∷◌, ◌++◌, get_or}
use Rattle.std.specs.Int.Bits.{bit_and, bit_or, bit_xor}

-- §2.2.2, §3.2: the operations on words of 32 bits. Sums are taken modulo 2^32
abbrev pub mod32 : ℕ → ℕ
mod32 x = x % 2 ^ 32

abbrev pub complement : ℕ → ℕ
complement x = (2 ^ 32 - 1) - x

abbrev pub SHR : ℕ → ℕ → ℕ
SHR n x = x / 2 ^ n

abbrev pub ROTR : ℕ → ℕ → ℕ
ROTR n x = bit_or (x / 2 ^ n) ((x * 2 ^ (32 - n)) % 2 ^ 32)

-- §4.1.2: the six functions
unfoldable pub Ch : ℕ → ℕ → ℕ → ℕ
Ch x y z = bit_xor (bit_and x y) (bit_and (complement x) z)

unfoldable pub Maj : ℕ → ℕ → ℕ → ℕ
Maj x y z = bit_xor (bit_xor (bit_and x y) (bit_and x z)) (bit_and y z)

unfoldable pub Σ0 : ℕ → ℕ
Σ0 x = bit_xor (bit_xor (ROTR 2 x) (ROTR 13 x)) (ROTR 22 x)

unfoldable pub Σ1 : ℕ → ℕ
Σ1 x = bit_xor (bit_xor (ROTR 6 x) (ROTR 11 x)) (ROTR 25 x)

unfoldable pub σ0 : ℕ → ℕ
σ0 x = bit_xor (bit_xor (ROTR 7 x) (ROTR 18 x)) (SHR 3 x)

unfoldable pub σ1 : ℕ → ℕ
σ1 x = bit_xor (bit_xor (ROTR 17 x) (ROTR 19 x)) (SHR 10 x)

-- §6.2.2, step 1: the message schedule. W_t is M_t up to 15, and from 16 on made of earlier words
unfoldable pub next_word : List ℕ → ℕ → ℕ
next_word W t = mod32 (σ1 (get_or W (t - 2) 0) + get_or W (t - 7) 0 + σ0 (get_or W (t - 15) 0) + get_or W (t - 16) 0)

-- the first 16 + n words
unfoldable pub schedule : List ℕ → ℕ → List ℕ
schedule M zero = M
schedule M (suc n) = schedule M n ++ (next_word (schedule M n) (16 + n) ∷ [])

unfoldable pub W : List ℕ → ℕ → ℕ
W M t = get_or (schedule M 48) t 0
