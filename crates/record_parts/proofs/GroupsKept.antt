-- Each group is a lawful part: every field is, and a value made of its own fields is itself.
use mathlib.Core.Path.{◌≡◌, refl}
use mathlib.Core.Bool.{true, false}
use Rattle.std.specs.Prelude.{Some, None}
use Rattle.sizes.specs.Sizes.{nonce_size, earlier_room, keys_room, identity_key_size}
use Rattle.unit.specs.Types.{Owner}
use Rattle.unit.specs.declared.Sound.{Sound}
use Rattle.unit.specs.declared.Protection.{Protection}
use Rattle.record_fields.specs.Part.{again, whole, Lawful}
use Rattle.record_parts.specs.Groups.{settings_fields, clock_fields, nonces_fields, owner_fields, accounts_fields, identity_fields, sound_fields, protection_fields}
use Rattle.record_fields.specs.Kinds.{tenths_size, seconds_size, count_size}
use Rattle.record_fields.proofs.Joining.{whole_lawful}
use Rattle.record_fields.proofs.KindsKept.{byte_lawful, plain_lawful, number_lawful, flag_lawful, power_lawful}

pub settings_lawful : Lawful (whole settings_fields)
unfolding settings_fields again
settings_lawful = whole_lawful settings_fields (((tt, power_lawful), byte_lawful), byte_lawful) (λ s. refl)

pub clock_lawful : Lawful (whole clock_fields)
unfolding clock_fields again
clock_lawful = whole_lawful clock_fields ((tt, number_lawful seconds_size), byte_lawful) (λ c. refl)

pub nonces_lawful : Lawful (whole nonces_fields)
unfolding nonces_fields again
nonces_lawful =
    whole_lawful nonces_fields ((((tt, byte_lawful), flag_lawful), plain_lawful nonce_size), plain_lawful earlier_room) (λ n. refl)

owner_again : (o : Owner) → again owner_fields o ≡ o
unfolding owner_fields again
owner_again None = refl
owner_again (Some p) = refl

pub owner_lawful : Lawful (whole owner_fields)
unfolding owner_fields
owner_lawful = whole_lawful owner_fields ((tt, byte_lawful), number_lawful count_size) owner_again

pub accounts_lawful : Lawful (whole accounts_fields)
unfolding accounts_fields again
accounts_lawful = whole_lawful accounts_fields (((tt, number_lawful count_size), owner_lawful), plain_lawful keys_room) (λ a. refl)

pub identity_lawful : Lawful (whole identity_fields)
unfolding identity_fields again
identity_lawful = whole_lawful identity_fields ((tt, flag_lawful), plain_lawful identity_key_size) (λ k. refl)

sound_again : (s : Sound) → again sound_fields s ≡ s
unfolding sound_fields again
sound_again Sound.Silent = refl
sound_again (Sound.Ringing mask volume left) = refl

pub sound_lawful : Lawful (whole sound_fields)
unfolding sound_fields
sound_lawful = whole_lawful sound_fields ((((tt, byte_lawful), byte_lawful), byte_lawful), number_lawful tenths_size) sound_again

protection_again : (p : Protection) → again protection_fields p ≡ p
unfolding protection_fields again
protection_again Protection.Off = refl
protection_again (Protection.On false) = refl
protection_again (Protection.On true) = refl

pub protection_lawful : Lawful (whole protection_fields)
unfolding protection_fields
protection_lawful = whole_lawful protection_fields (tt, byte_lawful) protection_again
