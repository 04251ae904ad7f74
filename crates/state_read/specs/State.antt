-- The request 0x01, which any account key may make: the provisioning state. It is judged on the unit with its nonce spent.
use Rattle.std.specs.Prelude.{ℕ, ◌+◌, Bool, false, cond, List, ◌∷◌, Some, None}
use Rattle.std.proofs.Math.Option.{Option, some, none}
use Rattle.laws.specs.Bytes.{same_bytes}
use Rattle.tables.specs.Rows.{place_of}
use Rattle.wire.specs.Shape.{Request}
use Rattle.unit.specs.declared.TagUnit.{TagUnit}
use Rattle.unit.specs.declared.Accounts.{Accounts}
use Rattle.unit.specs.Types.{Owner}
use Rattle.unit.specs.WellFormed.{held_keys, owner_key}
use Rattle.standing.specs.Standing.{shown_identifier}
use Rattle.unit.specs.Change.{with_accounts, with_owner, keyed}
use Rattle.account_keys.specs.Order.{after_use}
use Rattle.authentication.specs.Judgement.{Judgement, accepts, under, answered, used_key}

-- 0x01: "with no owner makes that key the owner (house), and its answer already shows it as owner"
abbrev pub claimed : Owner → List ℕ → Accounts → Accounts
claimed None key a = with_owner (Some (place_of key (held_keys a))) a
claimed (Some p) key a = a

abbrev pub owned_by : List ℕ → Accounts → Accounts
owned_by key a = claimed a.owner key a

-- "the key used is owner"
abbrev pub is_key : Option (List ℕ) → List ℕ → Bool
is_key none key = false
is_key (some owners) key = same_bytes owners key

-- "bit 0x01 identity key held, bit 0x02 the key used is owner"
abbrev pub state_bits : Bool → Bool → ℕ
state_bits held owner = cond held 1 0 + cond owner 2 0

-- "then the identifier", which "0x01 omits .. only with no key or if r is 0 before the cut"
unfoldable pub read_state : TagUnit → Request → Judgement
read_state u q =
    under (used_key u q)
    (λ key.
    accepts (after_use key (with_accounts (owned_by key u.accounts) u))
    (answered key u q
    (state_bits (keyed u) (is_key (owner_key (owned_by key u.accounts)) key) ∷ shown_identifier u)))
