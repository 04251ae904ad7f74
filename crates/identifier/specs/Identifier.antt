-- The ephemeral identifier of an identity key and a window, and its r, over the curve: the accessory rules' "Ephemeral identifier (EID) computation"
-- (source document 004) with SEC 1 and SEC 2. "Compute r' by AES-256 over the 32 bytes of the accessory rules' table 10 (11 bytes FF, K, the window;
-- 11 zero bytes, K, the window), then r = r' mod n and the x coordinate of r times G on SECP160R1, from SEC 2."
use Rattle.std.specs.Prelude.{ℕ, ◌/◌, ◌%◌, ◌≡◌, not, List, ◌∷◌, ◌++◌, eqb, replicate, Option, is_some, IfSome}
use Rattle.laws.specs.Bytes.{big_endian, number}
use Rattle.sizes.specs.Sizes.{rotation_exponent}
use Rattle.primitives.specs.Standards.{AES256}
use Rattle.curve_laws.specs.Curves.{Curve, x_times_g}
use Rattle.identifier.specs.declared.Identifier.{Identifier}

-- Table 10, a half of it. Octets 0 to 10 (16 to 26): padding, 0xFF (0x00). 11 (27): K, the exponent of the rotation period. 12 to 15 (28 to 31): the
-- beacon's time counter, 32 bits, big-endian, its K lowest bits cleared, which is the window
unfoldable pub half : ℕ → ℕ → List ℕ
half padding window = replicate 11 padding ++ (rotation_exponent ∷ big_endian 4 window)

-- The 32 bytes encrypted under the identity key by AES-256, block by block (ECB). "The result of this computation is a 256-bit number, denoted r'"
unfoldable pub pseudorandom : List ℕ → ℕ → List ℕ
pseudorandom key window = AES256 key (half 0xFF window) ++ AES256 key (half 0x00 window)

-- "r = r' mod n"; r' by its bytes
unfoldable pub scalar : Curve → List ℕ → ℕ
scalar c r' = number r' % c.n

-- the bytes of a coordinate
abbrev pub coordinate_size : Curve → ℕ
coordinate_size c = c.bits / 8

-- "R = r * G .. Rx, the x coordinate of R, as its ephemeral identifier": of G added r times, where infinity's x counts as 0
unfoldable pub identifier_by : Curve → ℕ → List ℕ
identifier_by c r = big_endian (coordinate_size c) (x_times_g c r)

-- "r is then cut or padded to 160 bits as source document 004 says": zeros before its highest bits where it has fewer bits than the curve, its highest
-- bits cut off where it has more
unfoldable pub aligned : Curve → ℕ → List ℕ
aligned c r = big_endian (coordinate_size c) r

-- What is worked out from r': an identifier, with r after the cut; none "if r is 0 before the cut"
pub record WorksOut (c : Curve) (r' : List ℕ) (i : Option Identifier) : Type 0 where
  pub some_is : is_some i ≡ not (eqb (scalar c r') 0)
  pub r_is : IfSome i (λ i. i.r ≡ aligned c (scalar c r'))
  pub id_is : IfSome i (λ i. i.id ≡ identifier_by c (scalar c r'))
