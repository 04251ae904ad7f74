-- The account keys in order of use, the most recently used first: what a use and a new key make of them. The owner's place follows its key.
use Rattle.std.specs.Prelude.{ℕ, suc, ◌+◌, ◌-◌, ◌*◌, cond, List, ◌++◌, eqb, ltb, take, drop, Some, None}
use Rattle.sizes.specs.Sizes.{account_key_size, most_keys}
use Rattle.tables.specs.Rows.{place_of}
use Rattle.unit.specs.WellFormed.{held_keys}
use Rattle.unit.specs.Change.{with_accounts}
use Rattle.unit.specs.declared.TagUnit.{TagUnit}
use Rattle.unit.specs.declared.Accounts.{Accounts}
use Rattle.unit.specs.Types.{Owner}

-- the table with a key first: those before a place stand one further on, and what stood at the place is gone
abbrev pub key_first : ℕ → List ℕ → List ℕ → List ℕ
key_first place key keys = key ++ (take (place * account_key_size) keys ++ drop (suc place * account_key_size) keys)

-- where the owner then stands: first, if it was its key that came there; one further on, if it stood before the place
abbrev pub followed : ℕ → Owner → Owner
followed place None = None
followed place (Some p) = Some (cond (eqb p place) 0 (cond (ltb p place) (suc p) p))

-- "The order of trial becomes most recently used first": a key that is used goes to the front
abbrev pub key_used : List ℕ → Accounts → Accounts
key_used key a =
    let place = place_of key (held_keys a) in
    record { count = a.count; owner = followed place a.owner; keys = key_first place key a.keys }

-- "least recently used in an accepted 0x00, 0x01 or 0x02": each of them uses a key
abbrev pub after_use : List ℕ → TagUnit → TagUnit
after_use key u = with_accounts (key_used key u.accounts) u

-- "drop the one least recently used .., but never the owner": of a full table the last, or the one before it where the last is the owner's
abbrev pub least_used : Owner → ℕ
least_used None = most_keys - 1
least_used (Some p) = cond (eqb p (most_keys - 1)) (most_keys - 2) (most_keys - 1)

-- the place that a new key takes the room of
abbrev pub place_for : Accounts → ℕ
place_for a = cond (ltb a.count most_keys) a.count (least_used a.owner)

-- "Arrival counts as use": a new key goes to the front, and in a full table the least recently used goes
abbrev pub key_added : List ℕ → Accounts → Accounts
key_added key a =
    record {
      count = cond (ltb a.count most_keys) (a.count + 1) most_keys;
      owner = followed (place_for a) a.owner;
      keys = key_first (place_for a) key a.keys;
    }
