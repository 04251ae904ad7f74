-- Each group of the unit's fields as a part of the record: which fields it has, in order. A variant is a byte, and what it holds after it; a
-- variant that holds nothing has zeros there.
use Rattle.std.specs.Prelude.{ℕ, ◌+◌, Bool, cond, List, eqb, ℤ, Some, None}
use Rattle.sizes.specs.Sizes.{nonce_size, earlier_room, keys_room, identity_key_size}
use Rattle.unit.specs.declared.Settings.{Settings}
use Rattle.unit.specs.declared.Clock.{Clock}
use Rattle.nonces.specs.declared.Nonces.{Nonces}
use Rattle.unit.specs.declared.Accounts.{Accounts}
use Rattle.unit.specs.Types.{Owner}
use Rattle.unit.specs.declared.Identity.{Identity}
use Rattle.unit.specs.declared.Sound.{Sound}
use Rattle.unit.specs.declared.Protection.{Protection}
use Rattle.record_fields.specs.Part.{Fields, making, ◌then◌of◌, whole}
use Rattle.record_fields.specs.Kinds.{tenths_size, seconds_size, count_size, byte_size, byte, plain, number_of, flag, flag_byte, power_size, power}

abbrev pub settings_size : ℕ
settings_size = power_size + byte_size + byte_size

abbrev pub settings_of : ℤ → ℕ → ℕ → Settings
settings_of p c s = record { power = p; components = c; selectable = s }

unfoldable pub settings_fields : Fields Settings settings_size Settings
settings_fields =
    making settings_of
    then power of (λ s. s.power)
    then byte of (λ s. s.components)
    then byte of (λ s. s.selectable)

abbrev pub clock_size : ℕ
clock_size = seconds_size + byte_size

abbrev pub clock_of : ℕ → ℕ → Clock
clock_of s t = record { seconds = s; tenth = t }

unfoldable pub clock_fields : Fields Clock clock_size Clock
clock_fields =
    making clock_of
    then number_of seconds_size of (λ c. c.seconds)
    then byte of (λ c. c.tenth)

abbrev pub nonces_size : ℕ
nonces_size = byte_size + byte_size + nonce_size + earlier_room

abbrev pub nonces_of : ℕ → Bool → List ℕ → List ℕ → Nonces
nonces_of c l n e = record { count = c; live = l; newest = n; earlier = e }

unfoldable pub nonces_fields : Fields Nonces nonces_size Nonces
nonces_fields =
    making nonces_of
    then byte of (λ n. n.count)
    then flag of (λ n. n.live)
    then plain nonce_size of (λ n. n.newest)
    then plain earlier_room of (λ n. n.earlier)

-- the owner: 0, or 1 and the place
abbrev pub owner_size : ℕ
owner_size = byte_size + count_size

abbrev pub owner_kind : Owner → ℕ
owner_kind None = 0
owner_kind (Some p) = 1

abbrev pub owner_place : Owner → ℕ
owner_place None = 0
owner_place (Some p) = p

abbrev pub owner_of : ℕ → ℕ → Owner
owner_of kind p = cond (eqb kind 1) (Some p) None

unfoldable pub owner_fields : Fields Owner owner_size Owner
owner_fields =
    making owner_of
    then byte of owner_kind
    then number_of count_size of owner_place

abbrev pub accounts_size : ℕ
accounts_size = count_size + owner_size + keys_room

abbrev pub accounts_of : ℕ → Owner → List ℕ → Accounts
accounts_of n o k = record { count = n; owner = o; keys = k }

unfoldable pub accounts_fields : Fields Accounts accounts_size Accounts
accounts_fields =
    making accounts_of
    then number_of count_size of (λ a. a.count)
    then whole owner_fields of (λ a. a.owner)
    then plain keys_room of (λ a. a.keys)

abbrev pub identity_size : ℕ
identity_size = byte_size + identity_key_size

abbrev pub identity_of : Bool → List ℕ → Identity
identity_of h b = record { held = h; bytes = b }

unfoldable pub identity_fields : Fields Identity identity_size Identity
identity_fields =
    making identity_of
    then flag of (λ k. k.held)
    then plain identity_key_size of (λ k. k.bytes)

-- the sound: 0, or 1 with the mask, the volume and the tenths left
abbrev pub sound_size : ℕ
sound_size = byte_size + byte_size + byte_size + tenths_size

abbrev pub sound_kind : Sound → ℕ
sound_kind Sound.Silent = 0
sound_kind (Sound.Ringing mask volume left) = 1

abbrev pub sound_mask : Sound → ℕ
sound_mask Sound.Silent = 0
sound_mask (Sound.Ringing mask volume left) = mask

abbrev pub sound_volume : Sound → ℕ
sound_volume Sound.Silent = 0
sound_volume (Sound.Ringing mask volume left) = volume

abbrev pub sound_left : Sound → ℕ
sound_left Sound.Silent = 0
sound_left (Sound.Ringing mask volume left) = left

abbrev pub sound_of : ℕ → ℕ → ℕ → ℕ → Sound
sound_of kind mask volume left = cond (eqb kind 1) (Sound.Ringing mask volume left) Sound.Silent

unfoldable pub sound_fields : Fields Sound sound_size Sound
sound_fields =
    making sound_of
    then byte of sound_kind
    then byte of sound_mask
    then byte of sound_volume
    then number_of tenths_size of sound_left

-- protection: 0 off, 1 on, 2 on with the flag that lets a ring skip authentication
abbrev pub protection_byte : Protection → ℕ
protection_byte Protection.Off = 0
protection_byte (Protection.On skip) = 1 + flag_byte skip

abbrev pub protection_of : ℕ → Protection
protection_of kind = cond (eqb kind 0) Protection.Off (Protection.On (eqb kind 2))

unfoldable pub protection_fields : Fields Protection byte_size Protection
protection_fields =
    making protection_of
    then byte of protection_byte
