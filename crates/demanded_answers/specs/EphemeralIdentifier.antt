-- The identifier that the tag works out, and its r: "Compute r' by AES-256 over the 32 bytes of the accessory rules' table 10 (11 bytes FF, K, the
-- window; 11 zero bytes, K, the window), then r = r' mod n and the x coordinate of r times G on SECP160R1, from SEC 2." In literal bytes over AES256, and
-- "Demand 2 then reads the curve definition": `x_times_g` is the x coordinate of G added r times by SEC 1's rules.
use Rattle.std.specs.Prelude.{ℕ, zero, suc, ◌+◌, ◌*◌, ◌/◌, ◌%◌, ◌^◌, List, [], ◌∷◌, ◌++◌, length}
use Rattle.primitives.specs.Standards.{AES256}
use Rattle.curve_laws.specs.Curves.{SECP160R1, x_times_g}
use Rattle.unit.specs.declared.TagUnit.{TagUnit}

-- "The window is the seconds with the low 10 bits cleared (house: K = 10)"
abbrev pub window_of : ℕ → ℕ
window_of seconds = seconds / 1024 * 1024

-- the four bytes of a window, big-endian
abbrev pub window_bytes : ℕ → List ℕ
window_bytes w = (w / 16777216 % 256) ∷ (w / 65536 % 256) ∷ (w / 256 % 256) ∷ (w % 256) ∷ []

-- Table 10, octets 0 to 15 and 16 to 31
unfoldable pub upper_half : ℕ → List ℕ
upper_half w = 0xFF ∷ 0xFF ∷ 0xFF ∷ 0xFF ∷ 0xFF ∷ 0xFF ∷ 0xFF ∷ 0xFF ∷ 0xFF ∷ 0xFF ∷ 0xFF ∷ 0x0A ∷ window_bytes w

unfoldable pub lower_half : ℕ → List ℕ
lower_half w = 0x00 ∷ 0x00 ∷ 0x00 ∷ 0x00 ∷ 0x00 ∷ 0x00 ∷ 0x00 ∷ 0x00 ∷ 0x00 ∷ 0x00 ∷ 0x00 ∷ 0x0A ∷ window_bytes w

-- "All multi-byte numbers are big-endian": the number of some bytes, and the k lowest bytes of a number
unfoldable pub number_of : List ℕ → ℕ
number_of [] = 0
number_of (b ∷ bs) = b * 256 ^ length bs + number_of bs

unfoldable pub low_bytes : ℕ → ℕ → List ℕ
low_bytes zero n = []
low_bytes (suc k) n = (n / 256 ^ k % 256) ∷ low_bytes k n

-- "r = r' mod n", of an identity key and a window
unfoldable pub r_from : List ℕ → ℕ → ℕ
r_from key w = number_of (AES256 key (upper_half w) ++ AES256 key (lower_half w)) % SECP160R1.n

-- r of a unit: of "the identity key in force" and the current window
abbrev pub r_of : TagUnit → ℕ
r_of u = r_from u.identity.bytes (window_of u.clock.seconds)

-- the identifier: 20 bytes of the x coordinate of r times G, of the whole r
abbrev pub identifier_of : TagUnit → List ℕ
identifier_of u = low_bytes 20 (x_times_g SECP160R1 (r_of u))

-- "r is then cut or padded to 160 bits as source document 004 says"
abbrev pub cut_r : TagUnit → List ℕ
cut_r u = low_bytes 20 (r_of u)
