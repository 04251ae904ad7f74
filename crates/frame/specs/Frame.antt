-- "Frame": the advertised frame, over its identifier's length.
use Rattle.std.specs.Prelude.{Option, None, Some}
use Rattle.std.specs.Prelude.{ℕ, ◌+◌, ◌*◌, Bool, cond, not, ◌&&◌, List, [], ◌∷◌, ◌++◌, eqb, get_or}
use Rattle.std.specs.Int.Bits.{bit_xor}
use Rattle.primitives.specs.Standards.{SHA256}

-- "02 01 06, length 0x18 or 0x19, 16 AA FE, 0x40 (0x41 under protection), identifier: 28 bytes, or 29 with the flags byte, when the
-- length is 0x19". The length byte counts the bytes behind it: 4, the identifier of `size` bytes, and the flags byte
abbrev pub length_byte : ℕ → Option ℕ → ℕ
length_byte size None = size + 4
length_byte size (Some b) = size + 5

abbrev pub flags_bytes : Option ℕ → List ℕ
flags_bytes None = []
flags_bytes (Some b) = b ∷ []

unfoldable pub rendered : ℕ → List ℕ → Bool → Option ℕ → List ℕ
rendered size id on flags =
    (0x02 ∷ 0x01 ∷ 0x06 ∷ length_byte size flags ∷ 0x16 ∷ 0xAA ∷ 0xFE ∷ cond on 0x41 0x40 ∷ id) ++ flags_bytes flags

-- "battery times 2 plus protection"
abbrev pub flags_before_xor : ℕ → Bool → ℕ
flags_before_xor battery on = battery * 2 + cond on 1 0

-- "the last byte of SHA256(r)"
abbrev pub flags_mask : List ℕ → ℕ
flags_mask r = get_or (SHA256 r) 31 0

-- "XOR the last byte of SHA256(r); left out, exactly, when battery and protection are both 0"
unfoldable pub flags_for : ℕ → Bool → List ℕ → Option ℕ
flags_for battery on r =
    cond (eqb battery 0 && not on) None (Some (bit_xor (flags_before_xor battery on) (flags_mask r)))
