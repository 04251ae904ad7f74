-- What callers use of HMAC: 32 bytes, each below 256.
use mathlib.Core.Path.{◌≡◌}
use mathlib.Core.List.{List}
use Prim.Native.Nat.{ℕ, ◌<◌}
use lib.ListN.{length, get_or}
use Rattle.hash.proofs.Laws.{length-SHA256, SHA256-byte}
use Rattle.hmac.specs.Hmac.{HMAC}

pub length-HMAC : (key text : List ℕ) → length (HMAC key text) ≡ 32
unfolding HMAC
length-HMAC key text = length-SHA256 _

pub HMAC-byte : (key text : List ℕ) (i : ℕ) → get_or (HMAC key text) i 0 < 256
unfolding HMAC
HMAC-byte key text i = SHA256-byte _ i
