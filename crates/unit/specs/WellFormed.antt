-- "What a unit holds": exactly the lines that make a record well formed.
use Rattle.std.specs.Prelude.{ℕ, ◌*◌, Bool, true, false, not, ◌&&◌, ◌||◌, List, [], leb, ltb, eqb, length, get_or, drop, ℤ, pos, negsuc, Some, None}
use Rattle.std.proofs.Math.Option.{Option, some, none}
use Rattle.laws.specs.Bytes.{all_zero}
use Rattle.sizes.specs.Sizes.{account_key_size, most_keys, keys_room, most_components, highest_volume, highest_battery, longest_ring, full_consent}
use Rattle.tables.specs.Rows.{rows, distinct}
use Rattle.nonces.specs.Nonces.{nonces_legal}
use Rattle.unit.specs.Ringable.{inside}
use Rattle.unit.specs.Change.{keyed}
use Rattle.unit.specs.declared.TagUnit.{TagUnit}
use Rattle.unit.specs.declared.Settings.{Settings}
use Rattle.unit.specs.declared.Accounts.{Accounts}
use Rattle.unit.specs.Types.{Owner}
use Rattle.unit.specs.declared.Identity.{Identity}
use Rattle.unit.specs.declared.Sound.{Sound}
use Rattle.unit.specs.declared.Protection.{Protection}

-- Settings: calibrated power, a whole number from -100 to 20 (negsuc n is -(n + 1)); components 0 to 3; volume selectable, 0 or 1
abbrev pub power_legal : ℤ → Bool
power_legal (pos n) = leb n 20
power_legal (negsuc n) = leb n 99

unfoldable pub settings_legal : Settings → Bool
settings_legal s = power_legal s.power && (leb s.components most_components && leb s.selectable 1)

-- Up to 10 account keys of 16 bytes: the rows held, in order of use, the most recent first
unfoldable pub held_keys : Accounts → List (List ℕ)
held_keys a = rows account_key_size a.count a.keys

-- no two equal; room for absent ones zero. (Every record of the code has the room; a list that stands for one has as many bytes.)
unfoldable pub accounts_legal : Accounts → Bool
accounts_legal a =
    eqb (length a.keys) keys_room
    && (leb a.count most_keys && (distinct (held_keys a) && all_zero (drop (a.count * account_key_size) a.keys)))

-- perhaps an owner among them
abbrev pub place_legal : Owner → ℕ → Bool
place_legal None count = true
place_legal (Some p) count = ltb p count

unfoldable pub owner_legal : Accounts → Bool
owner_legal a = place_legal a.owner a.count

abbrev pub owned : Owner → Bool
owned None = false
owned (Some p) = true

-- the owner's key, if there is an owner: what the rules speak of
abbrev pub row_of : Owner → List (List ℕ) → Option (List ℕ)
row_of None keys = none
row_of (Some p) keys = some (get_or keys p [])

unfoldable pub owner_key : Accounts → Option (List ℕ)
owner_key a = row_of a.owner (held_keys a)

-- perhaps a 32-byte identity key (then there is an owner); "A waiting key without an owner isn't well formed"
unfoldable pub identity_legal : Identity → Owner → Bool
identity_legal k o = (k.held && owned o) || (not k.held && all_zero k.bytes)

-- Silent, or ringing with a mask, a volume, tenths left and the nonce of the accepted ring
unfoldable pub sound_legal : Sound → List ℕ → Settings → Bool → Bool
sound_legal Sound.Silent nonce s keyed = all_zero nonce
sound_legal (Sound.Ringing mask volume left) nonce s keyed =
    keyed
    && ((not (eqb mask 0) && inside mask s.components)
    && (leb volume highest_volume
    && ((not (eqb s.selectable 0) || eqb volume 0)
    && (leb 1 left && leb left longest_ring))))

-- Protection: off, or on; on only with an identity key
abbrev pub protection_legal : Protection → Bool → Bool
protection_legal Protection.Off keyed = true
protection_legal (Protection.On skip) keyed = keyed

-- All lines. Not among them, on purpose: that a ringing unit has a last nonce, the ring's nonce against the last, and consent only with a key
unfoldable pub well_formed : TagUnit → Bool
well_formed u =
    settings_legal u.settings
    && (leb u.clock.tenth 9
    && (accounts_legal u.accounts
    && (owner_legal u.accounts
    && (identity_legal u.identity u.accounts.owner
    && (identity_legal u.waiting u.accounts.owner
    && (nonces_legal u.nonces
    && (sound_legal u.sound u.ring_nonce u.settings (keyed u)
    && (protection_legal u.protection (keyed u)
    && (leb u.consent full_consent
    && leb u.battery highest_battery)))))))))
