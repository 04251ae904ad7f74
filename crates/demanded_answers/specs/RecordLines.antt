-- "What a unit holds", line by line and in literal numbers: a record is well formed exactly if it breaks none of these lines. What does not
-- stand here is allowed: a ring without a last nonce or with another, consent without a key.
-- (That seconds have 32 bits, that flags are 0 or 1 and how long each room is, the types of the record say.)
use Rattle.std.specs.Prelude.{ℕ, ◌*◌, ◌/◌, ◌%◌, ◌^◌, ◌≤◌, ◌<◌, ◌≡◌, Bool, true, false, List, ◌++◌, length, get_or, pos, neg_ℤ, ◌≤ℤ◌, Some, None}
use Rattle.unit.specs.declared.TagUnit.{TagUnit}
use Rattle.unit.specs.declared.Sound.{Sound}
use Rattle.unit.specs.declared.Protection.{Protection}
use Rattle.unit.specs.WellFormed.{well_formed}
use Rattle.demanded_answers.specs.Spelled.{key_at_place, nonce_at_place}

-- "room for absent things not zero, is not well formed": every byte of the room is 0
abbrev pub Zeros : List ℕ → Type 0
Zeros room = (i : ℕ) → get_or room i 0 ≡ 0

-- "ringing with a mask, a volume, tenths left (1 to 6,000) .. Ringing only with an identity key, with a mask that isn't 0 and a volume of at
-- most 3, or 0 where not selectable"; "also a mask outside the components": bit i of the mask names a component if i is below their number
pub record RingLines (u : TagUnit) (mask volume left : ℕ) : Type 0 where
  pub keyed : u.identity.held ≡ true
  pub some_mask : mask ≡ 0 → ⊥
  pub no_bit_outside : (i : ℕ) → u.settings.components ≤ i → mask / 2 ^ i % 2 ≡ 0
  pub loudest : volume ≤ 3
  pub not_selectable : u.settings.selectable ≡ 0 → volume ≡ 0
  pub least_left : 1 ≤ left
  pub most_left : left ≤ 6000

pub record RecordLines (u : TagUnit) : Type 0 where
  -- "Settings: calibrated power, a whole number from -100 to 20; components 0 to 3; volume selectable, 0 or 1."
  pub least_power : neg_ℤ (pos 100) ≤ℤ u.settings.power
  pub most_power : u.settings.power ≤ℤ pos 20
  pub components : u.settings.components ≤ 3
  pub selectable : u.settings.selectable ≤ 1
  -- "Clock: seconds as 32 bits, and a tenth 0 to 9."
  pub tenth : u.clock.tenth ≤ 9
  -- "account keys of 16 bytes, no two equal"; "Raise the table from 5 keys to 10"
  pub keys_room : length u.accounts.keys ≡ 160
  pub keys_held : u.accounts.count ≤ 10
  pub no_two_equal : (i j : ℕ) → i < j → j < u.accounts.count → key_at_place u i ≡ key_at_place u j → ⊥
  pub no_other_keys : (i : ℕ) → 16 * u.accounts.count ≤ i → get_or u.accounts.keys i 0 ≡ 0
  -- "perhaps an owner among them": "an owner that isn't held" is not well formed
  pub owner_held : (p : ℕ) → u.accounts.owner ≡ Some p → p < u.accounts.count
  -- "perhaps a 32-byte identity key (then there is an owner)"
  pub key_owned : u.identity.held ≡ true → u.accounts.owner ≡ None → ⊥
  pub no_key : u.identity.held ≡ false → Zeros u.identity.bytes
  -- "A waiting key without an owner isn't well formed." Without a key in force it is, and so is one that equals it
  pub waiting_owned : u.waiting.held ≡ true → u.accounts.owner ≡ None → ⊥
  pub none_waits : u.waiting.held ≡ false → Zeros u.waiting.bytes
  -- "A well-formed record holds up to 16, all distinct"; "live without a nonce" is not well formed
  pub newest_room : length u.nonces.newest ≡ 8
  pub earlier_room : length u.nonces.earlier ≡ 120
  pub nonces_held : u.nonces.count ≤ 16
  pub no_nonce_twice : (i j : ℕ) → i < j → j < u.nonces.count → nonce_at_place u i ≡ nonce_at_place u j → ⊥
  pub no_other_nonces : (i : ℕ) → 8 * u.nonces.count ≤ i → get_or (u.nonces.newest ++ u.nonces.earlier) i 0 ≡ 0
  pub not_live : u.nonces.count ≡ 0 → u.nonces.live ≡ false
  -- "Sound: silent, or ringing .. and the nonce of the accepted ring, kept beside it."
  pub silent : u.sound ≡ Sound.Silent → Zeros u.ring_nonce
  pub ringing : (mask volume left : ℕ) → u.sound ≡ Sound.Ringing mask volume left → RingLines u mask volume left
  -- "Protection: off, or on with the skip flag on or off; on only with an identity key."
  pub protected : (skip : Bool) → u.protection ≡ Protection.On skip → u.identity.held ≡ true
  -- "Consent tenths left, 0 to 600; pairing flag; battery 0 to 3"
  pub consent : u.consent ≤ 600
  pub battery : u.battery ≤ 3

pub record WellFormedExactly : Type 0 where
  pub met : (u : TagUnit) → well_formed u ≡ true → RecordLines u
  pub enough : (u : TagUnit) → RecordLines u → well_formed u ≡ true
