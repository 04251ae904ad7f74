-- AES as FIPS 197 defines it, for keys of two sizes: AES-128 is Nk = 4, Nr = 10, AES-256 Nk = 8, Nr = 14 (§5, figure 4).
use Rattle.std.specs.Prelude.{List, ℕ}
use Rattle.key_schedule.specs.Expansion.{KeyExpansion}
use Rattle.rounds.specs.Rounds.{Cipher, InvCipher}

-- AES-128: a key of 16 bytes
unfoldable pub AES128 : List ℕ → List ℕ → List ℕ
AES128 key input = Cipher 10 (KeyExpansion 4 10 key) input

unfoldable pub InvAES128 : List ℕ → List ℕ → List ℕ
InvAES128 key input = InvCipher 10 (KeyExpansion 4 10 key) input

-- AES-256: a key of 32 bytes
unfoldable pub AES256 : List ℕ → List ℕ → List ℕ
AES256 key input = Cipher 14 (KeyExpansion 8 14 key) input
