-- The padded message of SHA-256 and its blocks, as FIPS 180-4 defines them, over messages of whole bytes. Clause numbers are the standard's.
use Rattle.std.specs.Prelude.{ℕ, ◌+◌, ◌-◌, ◌*◌, ◌%◌, List, ◌∷◌, ◌++◌, length, take, drop, replicate}
use Rattle.laws.specs.Bytes.{tabulate, big_endian, number}

-- §5.1.1: after the message a one bit, then the fewest zero bits that leave 64 of a block of 512, then the message's length in
-- bits as 64 bits. In bytes, for a message of n bytes: 0x80, the least k with n + 1 + k ≡ 56 (mod 64) zeros (55 - n modulo 64; that it
-- is the least is the law zeros-least), and eight bytes. The length field holds for messages under 2^64 bits
unfoldable pub zeros : ℕ → ℕ
zeros n = (55 + 64 - n % 64) % 64

unfoldable pub padding : ℕ → List ℕ
padding n = (0x80 ∷ replicate (zeros n) 0) ++ big_endian 8 (8 * n)

unfoldable pub pad : List ℕ → List ℕ
pad m = m ++ padding (length m)

-- §5.2.1: the sixteen words of the 64 bytes from byte k on; and block i of the padded message, counted from 0 (the standard's M^(i+1))
unfoldable pub words_at : List ℕ → ℕ → List ℕ
words_at p k = tabulate 16 (λ t. number (take 4 (drop (k + 4 * t) p)))

unfoldable pub block : List ℕ → ℕ → List ℕ
block p i = words_at p (64 * i)
