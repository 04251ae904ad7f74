-- The unit as a record of bytes, which a host keeps in its own memory and saves to flash: a version byte, then the unit part by part.
use Rattle.std.specs.Prelude.{ℕ, ◌+◌, cond, ◌&&◌, List, [], ◌∷◌, ◌++◌, eqb, length}
use Rattle.laws.specs.Bytes.{same_bytes}
use Rattle.sizes.specs.Sizes.{nonce_size}
use Rattle.unit.specs.Change.{no_unit, unit_of}
use Rattle.unit.specs.declared.TagUnit.{TagUnit}
use Rattle.record_fields.specs.Part.{Fields, making, ◌then◌of◌, whole, bytes_of, value_of}
use Rattle.record_fields.specs.Kinds.{byte_size, byte, plain, number_of, flag, tenths_size}
use Rattle.record_parts.specs.Groups.{settings_size, clock_size, nonces_size, accounts_size, identity_size, sound_size, settings_fields, clock_fields, nonces_fields, accounts_fields, identity_fields, sound_fields, protection_fields}

-- raised by every change of the layout; never 0x00 or 0xFF, so that zeroed and erased memory are no record
abbrev pub version : ℕ
version = 0x05

abbrev pub unit_size : ℕ
unit_size =
    settings_size + clock_size + nonces_size + accounts_size + identity_size + identity_size + sound_size + nonce_size + byte_size + tenths_size + byte_size + byte_size

-- the unit's parts, in order
unfoldable pub unit_fields : Fields TagUnit unit_size TagUnit
unit_fields =
    making unit_of
    then whole settings_fields of (λ u. u.settings)
    then whole clock_fields of (λ u. u.clock)
    then whole nonces_fields of (λ u. u.nonces)
    then whole accounts_fields of (λ u. u.accounts)
    then whole identity_fields of (λ u. u.identity)
    then whole identity_fields of (λ u. u.waiting)
    then whole sound_fields of (λ u. u.sound)
    then plain nonce_size of (λ u. u.ring_nonce)
    then whole protection_fields of (λ u. u.protection)
    then number_of tenths_size of (λ u. u.consent)
    then flag of (λ u. u.pairing)
    then byte of (λ u. u.battery)

abbrev pub record_size : ℕ
record_size = byte_size + unit_size

-- the record of a unit
unfoldable pub encoded : TagUnit → List ℕ
encoded u = (version ∷ []) ++ bytes_of unit_fields u

-- the unit that any bytes mean: the one whose record they are. Bytes of another length, with another version byte, or where a byte names no
-- variant are nobody's record, and mean no unit
unfoldable pub decoded : List ℕ → TagUnit
decoded b =
    let u = value_of unit_fields b byte_size in
    cond (eqb (length b) record_size && same_bytes (encoded u) b) u no_unit
