-- The unit is a lawful part of the record: every field is.
use mathlib.Core.Path.{refl}
use Rattle.sizes.specs.Sizes.{nonce_size}
use Rattle.record_fields.specs.Part.{again, whole, Lawful}
use Rattle.record_fields.specs.Kinds.{tenths_size}
use Rattle.record_fields.proofs.Joining.{AllLawful, whole_lawful}
use Rattle.record_fields.proofs.KindsKept.{byte_lawful, plain_lawful, number_lawful, flag_lawful}
use Rattle.record_parts.proofs.GroupsKept.{settings_lawful, clock_lawful, nonces_lawful, accounts_lawful, identity_lawful, sound_lawful, protection_lawful}
use Rattle.stored.specs.Record.{unit_fields}

pub unit_parts : AllLawful unit_fields
unfolding unit_fields
unit_parts =
    ((((((((((((tt, settings_lawful), clock_lawful), nonces_lawful), accounts_lawful), identity_lawful), identity_lawful), sound_lawful), plain_lawful nonce_size), protection_lawful), number_lawful tenths_size), flag_lawful), byte_lawful)

pub unit_lawful : Lawful (whole unit_fields)
unfolding unit_fields again
unit_lawful = whole_lawful unit_fields unit_parts (λ u. refl)
