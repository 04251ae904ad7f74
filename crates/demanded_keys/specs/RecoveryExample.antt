-- An example that the demand on recovery is not empty, for any account key, any 32 encrypted bytes and any nonces: from a fresh unit a key
-- is added, made owner by 0x01 and used to set an identity key by 0x02, which the disconnect brings in; after a press of the button 0x04 is
-- accepted, and answers the 32 bytes. The writes are the bytes that a phone sends, which knows the keys and the nonces that it read; no part needs to be
-- in reach.
use Rattle.std.specs.Prelude.{ℕ, ◌≡◌, true, List, [], ◌∷◌, ◌++◌, length, get_or, take, drop, replicate, pos}
use Rattle.laws.specs.Answer.{gives}
use Rattle.primitives.specs.Standards.{InvAES128}
use Rattle.unit.specs.declared.Settings.{Settings}
use Rattle.unit.specs.Change.{fresh}
use Rattle.unit.specs.WellFormed.{settings_legal}
use Rattle.tag.specs.Calls.{read, button, account_key, disconnect, Act, calls}
use Rattle.demanded_answers.specs.History.{step, after, sends, Bytes, AllOfBytes}
use Rattle.demanded_answers.specs.Spelled.{key_from, request_from}
use Rattle.demanded_keys.specs.Recovery.{SetBy, data_of}

-- what is given: legal settings, an account key, the encrypted bytes, and three nonces, no two the same
pub record Given (s : Settings) (key C n₁ n₂ n₃ : List ℕ) : Type 0 where
  pub legal : settings_legal s ≡ true
  pub key_long : length key ≡ 16
  pub encrypted_long : length C ≡ 32
  pub long₁ : length n₁ ≡ 8
  pub long₂ : length n₂ ≡ 8
  pub long₃ : length n₃ ≡ 8
  pub second : n₁ ≡ n₂ → ⊥
  pub third : n₂ ≡ n₃ → ⊥
  pub not_first : n₁ ≡ n₃ → ⊥
  pub key_bytes : Bytes key
  pub encrypted_bytes : Bytes C
  pub bytes₁ : Bytes n₁
  pub bytes₂ : Bytes n₂
  pub bytes₃ : Bytes n₃

abbrev pub provisioning : (key C n₁ n₂ n₃ : List ℕ) → List Act
provisioning key C n₁ n₂ n₃ =
    calls (account_key key) 0
    ∷ calls (read n₁) 42
    ∷ sends (request_from 0x01 key n₁ []) 0 42
    ∷ calls (read n₂) 42
    ∷ sends (request_from 0x02 key n₂ C) 0 42
    ∷ calls disconnect 0
    ∷ calls button 42
    ∷ calls (read n₃) 42
    ∷ []

-- the identity key is the two blocks of C, decrypted; the recovery key is made from it with 0x01
abbrev pub recovering : (key C n₃ : List ℕ) → List ℕ
recovering key C n₃ = request_from 0x04 (key_from 0x01 (InvAES128 key (take 16 C) ++ InvAES128 key (take 16 (drop 16 C)))) n₃ []

-- everything that the demand on recovery asks of a history and a write, and what it says of the answer
pub record Shown (s : Settings) (key C n₁ n₂ n₃ : List ℕ) : Type 0 where
  pub bytes : AllOfBytes (provisioning key C n₁ n₂ n₃)
  pub set_by : SetBy (fresh s) (provisioning key C n₁ n₂ n₃) C
  pub recovers : get_or (recovering key C n₃) 0 0 ≡ 0x04
  pub accepted : (answer : List ℕ)
      × ((step (sends (recovering key C n₃) 0 42) (after (provisioning key C n₁ n₂ n₃) (fresh s))).result ≡ gives answer)
      × (data_of answer ≡ C)

pub record RecoveryExample : Type 0 where
  pub shown : (s : Settings) (key C n₁ n₂ n₃ : List ℕ) → Given s key C n₁ n₂ n₃ → Shown s key C n₁ n₂ n₃
  -- and there are such settings, keys and nonces
  pub some : Given (record { power = pos 0; components = 0; selectable = 0 }) (replicate 16 0) (replicate 32 0) (replicate 8 1) (replicate 8 2) (replicate 8 3)
