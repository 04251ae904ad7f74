-- The request 0x00, which any account key may make: the parameters. It is judged on the unit with its nonce spent.
use Rattle.std.specs.Prelude.{ℕ, ◌-◌, List, ◌∷◌, ◌++◌, replicate, ℤ, pos, negsuc}
use Rattle.laws.specs.Bytes.{big_endian}
use Rattle.primitives.specs.Standards.{AES128}
use Rattle.wire.specs.Shape.{Request}
use Rattle.unit.specs.declared.TagUnit.{TagUnit}
use Rattle.unit.specs.declared.Settings.{Settings}
use Rattle.account_keys.specs.Order.{after_use}
use Rattle.authentication.specs.Judgement.{Judgement, accepts, under, answered, used_key}

-- "power as one signed byte, two's complement" (negsuc n is -(n + 1))
abbrev pub wire_byte : ℤ → ℕ
wire_byte (pos n) = n
wire_byte (negsuc n) = 255 - n

-- SECP160R1
abbrev pub curve : ℕ
curve = 0x00

-- 0x00: "power as one signed byte, two's complement; seconds; curve 0x00; components; volume capability; 8 zeros"
unfoldable pub parameters : Settings → ℕ → List ℕ
parameters s seconds =
    wire_byte s.power ∷ big_endian 4 seconds ++ (curve ∷ s.components ∷ s.selectable ∷ replicate 8 0)

-- "0x00, 0x01: any account key"; "encrypted by the account key used"
unfoldable pub read_parameters : TagUnit → Request → Judgement
read_parameters u q =
    under (used_key u q)
    (λ key. accepts (after_use key u) (answered key u q (AES128 key (parameters u.settings u.clock.seconds))))
