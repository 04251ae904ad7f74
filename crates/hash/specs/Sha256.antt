-- SHA-256 as FIPS 180-4 defines it, over messages of whole bytes. Clause numbers are the standard's, and names where it has them.
use Rattle.std.specs.Prelude.{ℕ, zero, suc, ◌/◌, List, ◌++◌, length}
use Rattle.laws.specs.Bytes.{big_endian}
use Rattle.padding.specs.Padding.{pad, block}
use Rattle.compression.specs.Compression.{compress}
use Rattle.compression.specs.declared.Working.{Working}

-- §5.3.3: the initial hash value
unfoldable pub H⁰ : Working
H⁰ =
    record {
      a = 0x6a09e667;
      b = 0xbb67ae85;
      c = 0x3c6ef372;
      d = 0xa54ff53a;
      e = 0x510e527f;
      f = 0x9b05688c;
      g = 0x1f83d9ab;
      h = 0x5be0cd19;
    }

-- §6.2.2: the hash value after the first n blocks of the padded message p
unfoldable pub hash_value : List ℕ → ℕ → Working
hash_value p zero = H⁰
hash_value p (suc n) = compress (hash_value p n) (block p n)

-- the hash value after a list of whole blocks
unfoldable pub value_after : List ℕ → Working
value_after p = hash_value p (length p / 64)

unfoldable pub digest : Working → List ℕ
digest H =
    big_endian 4 H.a ++ big_endian 4 H.b ++ big_endian 4 H.c ++ big_endian 4 H.d
    ++ big_endian 4 H.e ++ big_endian 4 H.f ++ big_endian 4 H.g ++ big_endian 4 H.h

unfoldable pub SHA256 : List ℕ → List ℕ
SHA256 m = digest (hash_value (pad m) (length (pad m) / 64))
