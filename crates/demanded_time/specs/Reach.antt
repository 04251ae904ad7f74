-- Parts that are out of reach, for any write on any unit: what a write leaves of a ring, and what an accepted 0x05 that failed says and leaves.
-- `Accepted` says which 0x05 starts, stops or fails.
use Rattle.std.specs.Prelude.{ℕ, ◌≡◌, List, ◌∷◌, get_or, drop}
use Rattle.laws.specs.Answer.{gives}
use Rattle.unit.specs.declared.TagUnit.{TagUnit}
use Rattle.unit.specs.declared.Sound.{Sound}
use Rattle.tag.specs.Calls.{Written}
use Rattle.demanded_answers.specs.Spelled.{bit, OnlySpends}
use Rattle.demanded_answers.specs.History.{step, writes}
use Rattle.demanded_answers.specs.Accepted.{sound_bytes}

-- After a write, from u to v: silence, the old ring with its nonce, or a ring that it started: "unreachable parts are dropped from the mask"
pub data SoundAfter (w : Written) (u v : TagUnit) : Type 0 where
  silent : v.sound ≡ Sound.Silent → SoundAfter w u v
  old : v.sound ≡ u.sound → v.ring_nonce ≡ u.ring_nonce → SoundAfter w u v
  started : (mask volume left : ℕ) → v.sound ≡ Sound.Ringing mask volume left → ((i : ℕ) → bit w.reach i ≡ 0 → bit mask i ≡ 0)
      → SoundAfter w u v

-- "A failed start or stop changes neither an old ring nor its timer; its notice carries the old mask and tenths left."
pub record Failed (u v : TagUnit) (answer : List ℕ) : Type 0 where
  pub unit : OnlySpends u v
  pub notice : drop 10 answer ≡ 0x01 ∷ sound_bytes u.sound

pub record Reach : Type 0 where
  pub only_reached : (u : TagUnit) (w : Written) (room : ℕ) → SoundAfter w u (step (writes w room) u).unit
  pub failed : (u : TagUnit) (w : Written) (room : ℕ) (answer : List ℕ) → get_or w.bytes 0 0 ≡ 0x05 → (step (writes w room) u).result ≡ gives answer
      → get_or answer 10 0 ≡ 0x01
      → Failed u (step (writes w room) u).unit answer
