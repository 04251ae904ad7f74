-- The unit with one thing changed, and the one form of each absent thing.
use Rattle.std.specs.Prelude.{ℕ, Bool, true, false, List, replicate, pos, None}
use Rattle.sizes.specs.Sizes.{nonce_size, keys_room, identity_key_size}
use Rattle.nonces.specs.Nonces.{no_nonces, spent_nonces}
use Rattle.unit.specs.declared.TagUnit.{TagUnit}
use Rattle.unit.specs.declared.Settings.{Settings}
use Rattle.unit.specs.declared.Clock.{Clock}
use Rattle.nonces.specs.declared.Nonces.{Nonces}
use Rattle.unit.specs.declared.Accounts.{Accounts}
use Rattle.unit.specs.Types.{Owner}
use Rattle.unit.specs.declared.Identity.{Identity}
use Rattle.unit.specs.declared.Sound.{Sound}
use Rattle.unit.specs.declared.Protection.{Protection}

-- What is absent has zeros in its room
abbrev pub no_accounts : Accounts
no_accounts = record { count = 0; owner = None; keys = replicate keys_room 0 }

abbrev pub no_identity : Identity
no_identity = record { held = false; bytes = replicate identity_key_size 0 }

-- an identity key that there is
abbrev pub identity_key : List ℕ → Identity
identity_key key = record { held = true; bytes = key }

-- the nonce beside a silent sound
abbrev pub no_ring_nonce : List ℕ
no_ring_nonce = replicate nonce_size 0

-- Fresh: no keys, nonce, sound, protection, consent or pairing; battery 0; the clock starts at 0. No key waits
abbrev pub fresh : Settings → TagUnit
fresh s =
    record {
      settings = s;
      clock = record { seconds = 0; tenth = 0 };
      nonces = no_nonces;
      accounts = no_accounts;
      identity = no_identity;
      waiting = no_identity;
      sound = Sound.Silent;
      ring_nonce = no_ring_nonce;
      protection = Protection.Off;
      consent = 0;
      pairing = false;
      battery = 0;
    }

-- a unit of its parts
abbrev pub unit_of : Settings → Clock → Nonces → Accounts → Identity → Identity → Sound → List ℕ → Protection → ℕ → Bool → ℕ → TagUnit
unit_of s c n a k w v m p t g b =
    record {
      settings = s;
      clock = c;
      nonces = n;
      accounts = a;
      identity = k;
      waiting = w;
      sound = v;
      ring_nonce = m;
      protection = p;
      consent = t;
      pairing = g;
      battery = b;
    }

-- the unit with one part changed
abbrev pub with_clock : Clock → TagUnit → TagUnit
with_clock c u =
    unit_of u.settings c u.nonces u.accounts u.identity u.waiting u.sound u.ring_nonce u.protection u.consent u.pairing u.battery

abbrev pub with_nonces : Nonces → TagUnit → TagUnit
with_nonces n u =
    unit_of u.settings u.clock n u.accounts u.identity u.waiting u.sound u.ring_nonce u.protection u.consent u.pairing u.battery

abbrev pub with_accounts : Accounts → TagUnit → TagUnit
with_accounts a u =
    unit_of u.settings u.clock u.nonces a u.identity u.waiting u.sound u.ring_nonce u.protection u.consent u.pairing u.battery

abbrev pub with_identity : Identity → TagUnit → TagUnit
with_identity k u =
    unit_of u.settings u.clock u.nonces u.accounts k u.waiting u.sound u.ring_nonce u.protection u.consent u.pairing u.battery

abbrev pub with_waiting : Identity → TagUnit → TagUnit
with_waiting w u =
    unit_of u.settings u.clock u.nonces u.accounts u.identity w u.sound u.ring_nonce u.protection u.consent u.pairing u.battery

abbrev pub with_protection : Protection → TagUnit → TagUnit
with_protection p u =
    unit_of u.settings u.clock u.nonces u.accounts u.identity u.waiting u.sound u.ring_nonce p u.consent u.pairing u.battery

abbrev pub with_consent : ℕ → TagUnit → TagUnit
with_consent t u =
    unit_of u.settings u.clock u.nonces u.accounts u.identity u.waiting u.sound u.ring_nonce u.protection t u.pairing u.battery

abbrev pub with_pairing : Bool → TagUnit → TagUnit
with_pairing on u =
    unit_of u.settings u.clock u.nonces u.accounts u.identity u.waiting u.sound u.ring_nonce u.protection u.consent on u.battery

abbrev pub with_battery : ℕ → TagUnit → TagUnit
with_battery level u =
    unit_of u.settings u.clock u.nonces u.accounts u.identity u.waiting u.sound u.ring_nonce u.protection u.consent u.pairing level

-- the accounts with another owner
abbrev pub with_owner : Owner → Accounts → Accounts
with_owner o a = record { count = a.count; owner = o; keys = a.keys }

-- a sound, with the nonce of the accepted ring beside it
abbrev pub with_sound : Sound → List ℕ → TagUnit → TagUnit
with_sound v m u =
    unit_of u.settings u.clock u.nonces u.accounts u.identity u.waiting v m u.protection u.consent u.pairing u.battery

-- Every way to silence goes through here: no sound, and no nonce beside it
abbrev pub silenced : TagUnit → TagUnit
silenced u = with_sound Sound.Silent no_ring_nonce u

-- "Until then the accepted key waits: all tags, key proofs, frames and 0x01 answers use the old key, or none on a new unit": whether there is an
-- identity key in force, and its bytes. A key that waits is neither
abbrev pub keyed : TagUnit → Bool
keyed u = u.identity.held

abbrev pub key_in_force : TagUnit → List ℕ
key_in_force u = u.identity.bytes

-- "spends the nonce"
abbrev pub spent : TagUnit → TagUnit
spent u = with_nonces (spent_nonces u.nonces) u

-- The record of no unit, fixed and not well formed, by its battery: what a refused new unit gives, so that a host which ignores the refusal
-- is answered with 2 from then on
unfoldable pub no_unit : TagUnit
no_unit = with_battery 255 (fresh (record { power = pos 0; components = 0; selectable = 0 }))
