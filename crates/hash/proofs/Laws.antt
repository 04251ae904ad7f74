-- What callers use of SHA-256: 32 bytes, each below 256; and that the padding is the one that FIPS 180-4 asks for:
-- the fewest zeros, and whole blocks.
use mathlib.Core.Path.{◌≡◌, refl}
use mathlib.Core.List.{List, [], ◌∷◌}
use Prim.Native.Nat.{ℕ, ◌+◌, ◌%◌, ◌≤◌, ◌<◌}
use native.Mathlib.Omega.{arith}
use native.Mathlib.Decide.{dec_lt}
use lib.ListN.{length, get_or, get_or-eq_default}
use Rattle.laws.specs.Bytes.{big_endian}
use Rattle.laws.proofs.Tabulate.{get_or_tabulate}
use Rattle.padding.specs.Padding.{zeros, pad}
use Rattle.hash.specs.Sha256.{digest, SHA256}
use Rattle.compression.specs.declared.Working.{Working}
use Rattle.hash.proofs.Hashed.{byte_of, digest_bytes, zeros_low, zeros_high, length_blocks}

pub length_digest : (H : Working) → length (digest H) ≡ 32
unfolding digest big_endian
length_digest H = refl

digest_byte : (H : Working) (i : ℕ) → get_or (digest H) i 0 < 256
unfolding byte_of
digest_byte H i = go (dec_lt i 32)
  where
    words : List ℕ
    words = H.a ∷ H.b ∷ H.c ∷ H.d ∷ H.e ∷ H.f ∷ H.g ∷ H.h ∷ []

    go : Dec (i < 32) → get_or (digest H) i 0 < 256
    go (yes p) = rw (← digest_bytes H, get_or_tabulate 32 (byte_of words) i 0 p) (omega arith)
    go (no q) =
        let past : length (digest H) ≤ i = rw length_digest (omega arith) in
        rw (get_or-eq_default (digest H) 0 past) (omega arith)

pub length-SHA256 : (m : List ℕ) → length (SHA256 m) ≡ 32
unfolding SHA256
length-SHA256 m = length_digest _

pub SHA256-byte : (m : List ℕ) (i : ℕ) → get_or (SHA256 m) i 0 < 256
unfolding SHA256
SHA256-byte m i = digest_byte _ i

-- zeros l is the smallest number of zeros after which 64 bits are left of a block
pub zeros_fits : (l : ℕ) → (l + 1 + zeros l) % 64 ≡ 56
zeros_fits l = go (dec_lt (l % 64) 56)
  where
    go : Dec (l % 64 < 56) → (l + 1 + zeros l) % 64 ≡ 56
    go (yes p) = omega (arith, zeros_low l p)
    go (no q) = omega (arith, zeros_high l (omega arith))

pub zeros_least : (l k : ℕ) → (l + 1 + k) % 64 ≡ 56 → zeros l ≤ k
zeros_least l k h = go (dec_lt (l % 64) 56)
  where
    go : Dec (l % 64 < 56) → zeros l ≤ k
    go (yes p) = omega (arith, zeros_low l p)
    go (no q) = omega (arith, zeros_high l (omega arith))

pub whole_blocks : (m : List ℕ) → length (pad m) % 64 ≡ 0
whole_blocks m = omega (arith, length_blocks m)
