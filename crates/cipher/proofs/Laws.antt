-- What crates above cite of AES: a block comes out as 16 bytes, whatever block goes in, under a key of 16 bytes or of 32. The round
-- trips are in `RoundTrip`.
use mathlib.Core.Path.{◌≡◌}
use mathlib.Core.List.{List}
use Prim.Native.Nat.{ℕ, ◌+◌, ◌*◌, ◌≤◌, ◌<◌}
use native.Mathlib.Omega.{arith}
use lib.Dec.{lit≤}
use lib.ListN.{length, get_or}
use Rattle.cipher.specs.Aes.{AES128, InvAES128, AES256}
use Rattle.key_schedule.specs.Expansion.{KeyExpansion}
use Rattle.key_schedule.proofs.Expansion.{length_schedule, bytes_schedule}
use Rattle.rounds.proofs.States.{long-Cipher, bytes-Cipher, long-InvCipher, bytes-InvCipher}

module _ (key block : List ℕ) (n : length key ≡ 16) where
  schedule_long : 16 * (10 + 1) ≤ length (KeyExpansion 4 10 key)
  schedule_long = omega (arith, length_schedule 4 10 key (lit≤ tt) (lit≤ tt) n)

  pub length-AES128 : length (AES128 key block) ≡ 16
  unfolding AES128
  length-AES128 = long-Cipher 10 (KeyExpansion 4 10 key) block schedule_long

  pub length-InvAES128 : length (InvAES128 key block) ≡ 16
  unfolding InvAES128
  length-InvAES128 = long-InvCipher 10 (KeyExpansion 4 10 key) block schedule_long

  module _ (bytes : (i : ℕ) → get_or key i 0 < 256) where
    pub bytes-AES128 : (i : ℕ) → get_or (AES128 key block) i 0 < 256
    unfolding AES128
    bytes-AES128 = bytes-Cipher 10 (KeyExpansion 4 10 key) block schedule_long (bytes_schedule 4 10 key bytes)

    pub bytes-InvAES128 : (i : ℕ) → get_or (InvAES128 key block) i 0 < 256
    unfolding InvAES128
    bytes-InvAES128 = bytes-InvCipher 10 (KeyExpansion 4 10 key) block schedule_long (bytes_schedule 4 10 key bytes)

module _ (key block : List ℕ) (n : length key ≡ 32) where
  schedule256_long : 16 * (14 + 1) ≤ length (KeyExpansion 8 14 key)
  schedule256_long = omega (arith, length_schedule 8 14 key (lit≤ tt) (lit≤ tt) n)

  pub length-AES256 : length (AES256 key block) ≡ 16
  unfolding AES256
  length-AES256 = long-Cipher 14 (KeyExpansion 8 14 key) block schedule256_long

  pub bytes-AES256 : ((i : ℕ) → get_or key i 0 < 256) → (i : ℕ) → get_or (AES256 key block) i 0 < 256
  unfolding AES256
  bytes-AES256 bytes = bytes-Cipher 14 (KeyExpansion 8 14 key) block schedule256_long (bytes_schedule 8 14 key bytes)
