-- Demand 2: "Each issue of a nonce authenticates at most one write." Over histories from a fresh unit, about issues and not values: a
-- nonce is live exactly if some successful read has no later write that passed 6, 2 and 1, and it is that read's. So each accepted write
-- (skipped rings too) has a successful read of its own before it, with no other write that passed 6, 2 and 1 between, and its tag is made with
-- that read's nonce; and of two accepted writes the later has a read of its own between them.
use Rattle.std.specs.Prelude.{ℕ, ◌≤◌, ◌<◌, ◌≡◌, true, List, [], ◌∷◌, ◌++◌, get_or, take, drop}
use Rattle.unit.specs.declared.TagUnit.{TagUnit}
use Rattle.unit.specs.declared.Settings.{Settings}
use Rattle.unit.specs.declared.Protection.{Protection}
use Rattle.unit.specs.Change.{fresh}
use Rattle.unit.specs.WellFormed.{well_formed}
use Rattle.tag.specs.Calls.{Written, read, write, Act, calls}
use Rattle.demanded_answers.specs.Spelled.{key_from, tag_from, key_at_place, OwnedWith, NoBitOutside}
use Rattle.demanded_answers.specs.History.{step, after, Succeeds}

-- a write that passed 6, 2 and 1: there was room, the unit was well formed, and no part was lent as reachable that it does not have
pub data PassesGuards : Act → TagUnit → Type 0 where
  passes : {w : Written} {room : ℕ} {u : TagUnit} → 42 ≤ room → well_formed u ≡ true → NoBitOutside u.settings.components w.reach
      → PassesGuards (calls (write w) room) u

-- a successful read
pub data Issues : Act → TagUnit → Type 0 where
  issues : {nonce : List ℕ} {room : ℕ} {u : TagUnit} → Succeeds (calls (read nonce) room) u → Issues (calls (read nonce) room) u

-- no successful read and no write that passed 6, 2 and 1 among these acts
abbrev pub Quiet : List Act → TagUnit → Type 0
Quiet [] u = Unit {0}
Quiet (a ∷ l) u = (Issues a u → ⊥) × (PassesGuards a u → ⊥) × Quiet l (step a u).unit

-- the history h, from the unit u, has a successful read of this nonce, and is quiet after it
pub record Issue (u : TagUnit) (h : List Act) (nonce : List ℕ) : Type 0 where
  pub before : List Act
  pub room : ℕ
  pub later : List Act
  pub split : h ≡ before ++ (calls (read nonce) room ∷ later)
  pub succeeded : Succeeds (calls (read nonce) room) (after before u)
  pub quiet : Quiet later (step (calls (read nonce) room) (after before u)).unit

-- the keys that may tag a write of an ID: "any account key" that is held, "owner key", "recovery key", "ring key", "protection key"
pub data MayTag (u : TagUnit) : ℕ → List ℕ → Type 0 where
  parameters : (p : ℕ) → p < u.accounts.count → MayTag u 0x00 (key_at_place u p)
  state : (p : ℕ) → p < u.accounts.count → MayTag u 0x01 (key_at_place u p)
  key_set : {key : List ℕ} → OwnedWith u key → MayTag u 0x02 key
  cleared : {key : List ℕ} → OwnedWith u key → MayTag u 0x03 key
  recovery : MayTag u 0x04 (key_from 0x01 u.identity.bytes)
  ring : MayTag u 0x05 (key_from 0x02 u.identity.bytes)
  sound_state : MayTag u 0x06 (key_from 0x02 u.identity.bytes)
  protected : MayTag u 0x07 (key_from 0x03 u.identity.bytes)
  unprotected : MayTag u 0x08 (key_from 0x03 u.identity.bytes)

-- a write whose tag bytes are made with this nonce, or one of which no tag is asked: "For 0x05 with protection and skip on, any tag passes."
pub data Authenticated (u : TagUnit) (w nonce : List ℕ) : Type 0 where
  tagged : (key : List ℕ) → MayTag u (get_or w 0 0) key → take 8 (drop 2 w) ≡ tag_from key nonce (get_or w 0 0) (get_or w 1 0) (drop 10 w) → Authenticated u w nonce
  skipped : get_or w 0 0 ≡ 0x05 → u.protection ≡ Protection.On true → Authenticated u w nonce

pub record Demand2Nonces : Type 0 where
  -- live exactly then, and it is that read's
  pub live : (s : Settings) (h : List Act) → (after h (fresh s)).nonces.live ≡ true → (nonce : List ℕ) × Issue (fresh s) h nonce
  pub issued : (s : Settings) (h : List Act) (nonce : List ℕ) → Issue (fresh s) h nonce → (after h (fresh s)).nonces.live ≡ true
  pub whose : (s : Settings) (h : List Act) (nonce : List ℕ) → Issue (fresh s) h nonce → (after h (fresh s)).nonces.newest ≡ nonce
  -- so an accepted write has a read of its own, nothing that spends or issues between, and a tag made with that nonce; which is then not live
  pub own : (s : Settings) (h : List Act) (w : Written) (room : ℕ)
      → Succeeds (calls (write w) room) (after h (fresh s))
      → (nonce : List ℕ) × Issue (fresh s) h nonce × Authenticated (after h (fresh s)) w.bytes nonce
  pub once : (s : Settings) (h : List Act) (w : Written) (room : ℕ)
      → PassesGuards (calls (write w) room) (after h (fresh s))
      → (after (h ++ (calls (write w) room ∷ [])) (fresh s)).nonces.live ≡ true
      → ⊥
  -- of two accepted writes the later has its read between them
  pub between : (s : Settings) (g : List Act) (v : Written) (firstRoom : ℕ) (h : List Act) (w : Written) (room : ℕ)
      → Succeeds (calls (write v) firstRoom) (after g (fresh s))
      → Succeeds (calls (write w) room) (after (g ++ (calls (write v) firstRoom ∷ h)) (fresh s))
      → (nonce : List ℕ)
      × Issue (after (g ++ (calls (write v) firstRoom ∷ [])) (fresh s)) h nonce
      × Authenticated (after (g ++ (calls (write v) firstRoom ∷ h)) (fresh s)) w.bytes nonce
