-- The calls of the primitives, in literal numbers: "7: message or HMAC key over 65,535 bytes; AES key or block not 16 bytes; hash answer not 32
-- bytes, block answer not 16", and "AES-256 refuses with 7 unless its key has 32 bytes; AES-128 keeps its 16".
use Rattle.std.specs.Prelude.{ℕ, ◌≤◌, ◌<◌, ◌≡◌, List, length}
use Rattle.laws.specs.Answer.{Result, gives, refuses}
use Rattle.primitives.specs.Standards.{SHA256, HMAC, AES128, InvAES128, AES256}
use Rattle.hash_calls.specs.Calls.{hashed, authenticated}
use Rattle.cipher_calls.specs.Calls.{encrypted, decrypted, encrypted256}

-- a call of a cipher whose keys have so many bytes, with the lent answer bytes' number last
pub record OneBlock (call : List ℕ → List ℕ → ℕ → Result) (cipher : List ℕ → List ℕ → List ℕ) (keySize : ℕ) : Type 0 where
  pub serves : (key block : List ℕ) → length key ≡ keySize → length block ≡ 16 → call key block 16 ≡ gives (cipher key block)
  pub wrong_key : (key block : List ℕ) (room : ℕ) → (length key ≡ keySize → ⊥) → call key block room ≡ refuses 7
  pub wrong_block : (key block : List ℕ) (room : ℕ) → (length block ≡ 16 → ⊥) → call key block room ≡ refuses 7
  pub wrong_room : (key block : List ℕ) (room : ℕ) → (room ≡ 16 → ⊥) → call key block room ≡ refuses 7

pub record PrimitiveCalls : Type 0 where
  pub encrypts : OneBlock encrypted AES128 16
  pub decrypts : OneBlock decrypted InvAES128 16
  pub encrypts_long : OneBlock encrypted256 AES256 32
  pub hashes : (message : List ℕ) → length message ≤ 65535 → hashed message 32 ≡ gives (SHA256 message)
  pub hash_too_long : (message : List ℕ) (room : ℕ) → 65535 < length message → hashed message room ≡ refuses 7
  pub hash_room : (message : List ℕ) (room : ℕ) → (room ≡ 32 → ⊥) → hashed message room ≡ refuses 7
  pub authenticates : (key message : List ℕ) → length key ≤ 65535 → length message ≤ 65535 → authenticated key message 32 ≡ gives (HMAC key message)
  pub key_too_long : (key message : List ℕ) (room : ℕ) → 65535 < length key → authenticated key message room ≡ refuses 7
  pub message_too_long : (key message : List ℕ) (room : ℕ) → 65535 < length message → authenticated key message room ≡ refuses 7
  pub code_room : (key message : List ℕ) (room : ℕ) → (room ≡ 32 → ⊥) → authenticated key message room ≡ refuses 7
