-- Ten account keys, and room for the next: "when an eleventh comes, drop the one least recently used in an accepted 0x00, 0x01 or 0x02, but
-- never the owner. Arrival counts as use; adding a key already held doesn't." Over histories from a fresh unit, by the calls of the history and
-- not by what the record holds.
use Rattle.std.specs.Prelude.{ℕ, zero, suc, ◌≤◌, ◌<◌, ◌≡◌, Bool, true, false, cond, List, [], ◌∷◌, ◌++◌, length, get_or, take, drop, None}
use Rattle.std.proofs.Math.Option.{Option, some, none}
use Rattle.laws.specs.Bytes.{same_bytes}
use Rattle.unit.specs.declared.TagUnit.{TagUnit}
use Rattle.unit.specs.declared.Settings.{Settings}
use Rattle.unit.specs.Change.{fresh}
use Rattle.unit.specs.WellFormed.{settings_legal}
use Rattle.tag.specs.Calls.{Written, write, account_key, Act, calls}
use Rattle.demanded_answers.specs.Spelled.{tag_from, key_at_place, OwnedWith}
use Rattle.demanded_answers.specs.History.{after, Succeeds}
use Rattle.demanded_nonces.specs.Among.{Accepts}

-- keys without this one
unfoldable pub without : List ℕ → List (List ℕ) → List (List ℕ)
without key [] = []
without key (k ∷ keys) = cond (same_bytes key k) keys (k ∷ without key keys)

abbrev pub is_owner : Option (List ℕ) → List ℕ → Bool
is_owner none key = false
is_owner (some owner) key = same_bytes owner key

-- of keys the owner, wherever it stands, and the first n others, in their order
unfoldable pub first_others : ℕ → Option (List ℕ) → List (List ℕ) → List (List ℕ)
first_others n owner [] = []
first_others zero owner (k ∷ keys) = cond (is_owner owner k) (k ∷ first_others zero owner keys) (first_others zero owner keys)
first_others (suc n) owner (k ∷ keys) = cond (is_owner owner k) (k ∷ first_others (suc n) owner keys) (k ∷ first_others n owner keys)

-- the ten that are held of all keys that came, the last used first: "never the owner" is dropped
abbrev pub kept : Option (List ℕ) → List (List ℕ) → List (List ℕ)
kept none keys = first_others 10 none keys
kept (some owner) keys = first_others 9 (some owner) keys

abbrev pub Absent : List ℕ → List (List ℕ) → Type 0
Absent key keys = (i : ℕ) → i < length keys → get_or keys i [] ≡ key → ⊥

-- a new key comes: a successful call with a key that is not held
pub data Arrives (keys : List (List ℕ)) : Act → TagUnit → Type 0 where
  arrives : {key : List ℕ} {room : ℕ} {u : TagUnit} → Succeeds (calls (account_key key) room) u → Absent key keys → Arrives keys (calls (account_key key) room) u

-- "the first held key whose tag matches": this one makes the tag of the write, and none before it does
pub record Matches (u : TagUnit) (w : List ℕ) (keys : List (List ℕ)) (key : List ℕ) : Type 0 where
  pub place : ℕ
  pub below : place < length keys
  pub there : get_or keys place [] ≡ key
  pub tagged : take 8 (drop 2 w) ≡ tag_from key u.nonces.newest (get_or w 0 0) (get_or w 1 0) (drop 10 w)
  pub earlier : (i : ℕ) → i < place → take 8 (drop 2 w) ≡ tag_from (get_or keys i []) u.nonces.newest (get_or w 0 0) (get_or w 1 0) (drop 10 w) → ⊥

-- "0x01 with no owner makes that key the owner"
abbrev pub owner_after : Option (List ℕ) → List ℕ → Option (List ℕ)
owner_after none key = some key
owner_after (some owner) key = some owner

-- the owner's key after a history from the unit u, and the keys that came since it was fresh or cleared, dropped ones too, the last used first
pub data ByUse (u : TagUnit) : List Act → Option (List ℕ) → List (List ℕ) → Type 0 where
  start : ByUse u [] none []
  arrival : {h : List Act} {owner : Option (List ℕ)} {keys : List (List ℕ)} (key : List ℕ) (room : ℕ) → ByUse u h owner keys
      → Arrives (kept owner keys) (calls (account_key key) room) (after h u)
      → ByUse u (h ++ (calls (account_key key) room ∷ [])) owner (key ∷ without key keys)
  parameters : {h : List Act} {owner : Option (List ℕ)} {keys : List (List ℕ)} (key : List ℕ) (w : Written) (room : ℕ) → ByUse u h owner keys
      → Accepts 0x00 (calls (write w) room) (after h u)
      → Matches (after h u) w.bytes (kept owner keys) key
      → ByUse u (h ++ (calls (write w) room ∷ [])) owner (key ∷ without key keys)
  state : {h : List Act} {owner : Option (List ℕ)} {keys : List (List ℕ)} (key : List ℕ) (w : Written) (room : ℕ) → ByUse u h owner keys
      → Accepts 0x01 (calls (write w) room) (after h u)
      → Matches (after h u) w.bytes (kept owner keys) key
      → ByUse u (h ++ (calls (write w) room ∷ [])) (owner_after owner key) (key ∷ without key keys)
  sets : {h : List Act} {keys : List (List ℕ)} (owner : List ℕ) (w : Written) (room : ℕ) → ByUse u h (some owner) keys
      → Accepts 0x02 (calls (write w) room) (after h u)
      → ByUse u (h ++ (calls (write w) room ∷ [])) (some owner) (owner ∷ without owner keys)
  clears : {h : List Act} {owner : Option (List ℕ)} {keys : List (List ℕ)} (w : Written) (room : ℕ) → ByUse u h owner keys
      → Accepts 0x03 (calls (write w) room) (after h u)
      → ByUse u (h ++ (calls (write w) room ∷ [])) none []
  others : {h : List Act} {owner : Option (List ℕ)} {keys : List (List ℕ)} {a : Act} → ByUse u h owner keys
      → (Arrives (kept owner keys) a (after h u) → ⊥)
      → ((id : ℕ) → id ≤ 0x03 → Accepts id a (after h u) → ⊥)
      → ByUse u (h ++ (a ∷ [])) owner keys

abbrev pub OwnerIs : Option (List ℕ) → TagUnit → Type 0
OwnerIs none u = u.accounts.owner ≡ None
OwnerIs (some key) u = OwnedWith u key

-- the unit holds these keys, in this order, and this is its owner
pub record Holds (owner : Option (List ℕ)) (keys : List (List ℕ)) (u : TagUnit) : Type 0 where
  pub count : u.accounts.count ≡ length keys
  pub order : (i : ℕ) → i < length keys → key_at_place u i ≡ get_or keys i []
  pub owner_is : OwnerIs owner u

pub record KeysByUse : Type 0 where
  -- every history has such an owner and such keys
  pub known : (s : Settings) (h : List Act) → settings_legal s ≡ true → (owner : Option (List ℕ)) × (keys : List (List ℕ)) × ByUse (fresh s) h owner keys
  -- and the unit holds of them the ten last used, or the owner and the nine others last used
  pub held : (s : Settings) (h : List Act) (owner : Option (List ℕ)) (keys : List (List ℕ)) → settings_legal s ≡ true → ByUse (fresh s) h owner keys
      → Holds owner (kept owner keys) (after h (fresh s))
