-- HMAC as RFC 2104 defines it, with SHA-256 for H, so B = 64 and L = 32.
use Rattle.std.specs.Prelude.{ℕ, ◌-◌, cond, List, ◌++◌, leb, length, replicate}
use Rattle.laws.specs.Bytes.{◌⊕◌}
use Rattle.hash.specs.Sha256.{SHA256, value_after}
use Rattle.hmac.specs.declared.Keyed.{Keyed}

abbrev pub B : ℕ
B = 64

-- §2: a key longer than B bytes is hashed first; then zeros are appended up to B bytes
unfoldable pub shortened : List ℕ → List ℕ
shortened key = cond (leb (length key) B) key (SHA256 key)

unfoldable pub filled : List ℕ → List ℕ
filled k = k ++ replicate (B - length k) 0

abbrev pub ipad : List ℕ
ipad = replicate B 0x36

abbrev pub opad : List ℕ
opad = replicate B 0x5c

-- H(K XOR opad, H(K XOR ipad, text))
unfoldable pub HMAC : List ℕ → List ℕ → List ℕ
HMAC key text = SHA256 ((filled (shortened key) ⊕ opad) ++ SHA256 ((filled (shortened key) ⊕ ipad) ++ text))

-- the key made ready: the hash values after its block under each mask, which HMAC goes on from
unfoldable pub keyed_by : List ℕ → Keyed
keyed_by key =
    record {
      inner = value_after (filled (shortened key) ⊕ ipad);
      outer = value_after (filled (shortened key) ⊕ opad);
    }
