-- A stuck random source: "Refusal 3 must be given when the lent nonce equals any of the last 16 issued, live or spent, a clear (0x03) included.
-- The seventeenth back is accepted." Over histories from a fresh unit, by the successful reads of the history and not by what the record holds.
use Rattle.std.specs.Prelude.{ℕ, ◌≤◌, ◌<◌, ◌≡◌, true, List, [], ◌∷◌, ◌++◌, length, get_or}
use Rattle.laws.specs.Answer.{gives, refuses}
use Rattle.unit.specs.declared.TagUnit.{TagUnit}
use Rattle.unit.specs.declared.Settings.{Settings}
use Rattle.unit.specs.Change.{fresh}
use Rattle.unit.specs.WellFormed.{settings_legal}
use Rattle.tag.specs.Calls.{read, Act, calls}
use Rattle.demanded_answers.specs.History.{step, after, Succeeds}
use Rattle.demanded_nonces.specs.Nonces.{Issues}

-- the successful reads of a history, from the unit u, are those of these nonces, the last read first
pub data ReadIn (u : TagUnit) : List Act → List (List ℕ) → Type 0 where
  none : ReadIn u [] []
  reads : {h : List Act} {nonces : List (List ℕ)} (nonce : List ℕ) (room : ℕ) → ReadIn u h nonces → Succeeds (calls (read nonce) room) (after h u)
      → ReadIn u (h ++ (calls (read nonce) room ∷ [])) (nonce ∷ nonces)
  others : {h : List Act} {nonces : List (List ℕ)} {a : Act} → ReadIn u h nonces → (Issues a (after h u) → ⊥) → ReadIn u (h ++ (a ∷ [])) nonces

-- one of the last sixteen, or of all where there were fewer
abbrev pub OfTheLast16 : List ℕ → List (List ℕ) → Type 0
OfTheLast16 nonce nonces = (i : ℕ) × (i < 16) × (i < length nonces) × (get_or nonces i [] ≡ nonce)

pub record NonceRepeats : Type 0 where
  -- every history has such a list
  pub known : (s : Settings) (h : List Act) → (nonces : List (List ℕ)) × ReadIn (fresh s) h nonces
  -- a read with room is refused with 3 if its nonce is not of 8 bytes or one of the last sixteen, and is served if it is neither
  pub wrong_size : (s : Settings) (h : List Act) (nonce : List ℕ) (room : ℕ) → settings_legal s ≡ true → 42 ≤ room → (length nonce ≡ 8 → ⊥)
      → (step (calls (read nonce) room) (after h (fresh s))).result ≡ refuses 3
  pub again : (s : Settings) (h : List Act) (nonces : List (List ℕ)) (nonce : List ℕ) (room : ℕ) → settings_legal s ≡ true → ReadIn (fresh s) h nonces
      → 42 ≤ room → OfTheLast16 nonce nonces → (step (calls (read nonce) room) (after h (fresh s))).result ≡ refuses 3
  pub accepted : (s : Settings) (h : List Act) (nonces : List (List ℕ)) (nonce : List ℕ) (room : ℕ) → settings_legal s ≡ true
      → ReadIn (fresh s) h nonces → 42 ≤ room → length nonce ≡ 8 → (OfTheLast16 nonce nonces → ⊥)
      → (step (calls (read nonce) room) (after h (fresh s))).result ≡ gives (0x01 ∷ nonce)
