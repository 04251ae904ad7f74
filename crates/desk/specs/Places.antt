-- Where each part stands in the lent bytes, as the C header says. Proved in proofs/Places.
use Rattle.std.specs.Prelude.{◌≡◌, cond, length, get_or, take, drop}
use Rattle.sizes.specs.Sizes.{identifier_size}
use Rattle.frame_reader.specs.Reader.{Parts}
use Rattle.frame_opener.specs.Opener.{Opened}
use Rattle.desk.specs.Exported.{part_bytes, opened_bytes, flags_shown, flags_byte, parts_identifier_at, parts_protection_at, parts_flags_shown_at, parts_flags_byte_at, parts_size, parts_battery_at, parts_with_r_size}

pub record Placed (p : Parts) : Type 0 where
  pub identifier_is : take identifier_size (drop parts_identifier_at (part_bytes p)) ≡ p.identifier
  pub protection_is : get_or (part_bytes p) parts_protection_at 0 ≡ cond p.protected 1 0
  pub flags_shown_is : get_or (part_bytes p) parts_flags_shown_at 0 ≡ flags_shown p.flags
  pub flags_byte_is : get_or (part_bytes p) parts_flags_byte_at 0 ≡ flags_byte p.flags
  pub size_is : length (part_bytes p) ≡ parts_size

pub record PlacedWithR (o : Opened) : Type 0 where
  pub parts_are : take parts_size (opened_bytes o) ≡ part_bytes o.parts
  pub battery_is : get_or (opened_bytes o) parts_battery_at 0 ≡ o.battery
  pub size_is : length (opened_bytes o) ≡ parts_with_r_size

pub record Places : Type 0 where
  pub parts : (p : Parts) → length p.identifier ≡ identifier_size → Placed p
  pub opened : (o : Opened) → length o.parts.identifier ≡ identifier_size → PlacedWithR o
