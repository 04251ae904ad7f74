-- The key that waits: "Until then the accepted key waits: all tags, key proofs, frames and 0x01 answers use the old key, or none on a new unit."
-- So before the disconnect nothing shows it: without a key in force 0x03 to 0x08 are refused, and two units that differ in it alone answer
-- alike. Of two that were set, the disconnect brings the second in.
use Rattle.std.specs.Prelude.{ℕ, ◌≤◌, ◌≡◌, true, false, List, [], ◌∷◌, ◌++◌, take, drop}
use Rattle.primitives.specs.Standards.{InvAES128}
use Rattle.unit.specs.declared.TagUnit.{TagUnit}
use Rattle.unit.specs.WellFormed.{well_formed}
use Rattle.tag.specs.Calls.{Written, disconnect, Act, calls}
use Rattle.demanded_answers.specs.Spelled.{OwnedWith, NoBitOutside, AllBut, waiting}
use Rattle.demanded_answers.specs.History.{step, after, writes, sends}
use Rattle.demanded_refusals.specs.Refused.{Sent, RefusedWith}
use Rattle.demanded_time.specs.Time.{World, slept, runs, start}
use Rattle.demanded_nonces.specs.Among.{NoneIn, Accepts}

-- a list of acts without a disconnect
pub data Disconnects : Act → Type 0 where
  disconnects : {room : ℕ} → Disconnects (calls disconnect room)

abbrev pub Connected : List Act → Type 0
Connected [] = Unit {0}
Connected (a ∷ l) = (Disconnects a → ⊥) × Connected l

-- two runs with the same answers and the same notifications at the same tenths, and with units that are the same but for the waiting key
pub record Alike (v w : World) : Type 0 where
  pub answers : w.answers ≡ v.answers
  pub notifications : w.notifications ≡ v.notifications
  pub unit : AllBut (waiting ∷ []) v.unit w.unit

-- From the unit u on: an accepted 0x02, acts, a second accepted 0x02, and acts among which no further 0x02 and no 0x03 is accepted
pub record SetTwice (u : TagUnit) (first : Written) (firstRoom : ℕ) (between : List Act) (second : Written) (room : ℕ) (later : List Act) : Type 0 where
  pub first_accepted : Accepts 0x02 (writes first firstRoom) u
  pub second_accepted : Accepts 0x02 (writes second room) (after (writes first firstRoom ∷ between) u)
  pub no_third : NoneIn (Accepts 0x02) later (after (writes first firstRoom ∷ between ++ (writes second room ∷ [])) u)
  pub kept : NoneIn (Accepts 0x03) later (after (writes first firstRoom ∷ between ++ (writes second room ∷ [])) u)

pub record WaitingKey : Type 0 where
  -- "or none on a new unit": without a key in force, whatever waits, "IDs 0x03 to 0x08 without an identity key: 0x80"; only the nonce is spent,
  -- so that the waiting key stays, by 0x03 too
  pub none_in_force : (u : TagUnit) (reach room : ℕ) (w : List ℕ) (id size : ℕ) (tag additional : List ℕ) → well_formed u ≡ true → 42 ≤ room
      → NoBitOutside u.settings.components reach
      → u.identity.held ≡ false → Sent w id size tag additional → 0x03 ≤ id
      → RefusedWith 0x80 u (step (sends w reach room) u)
  -- "all tags, key proofs, frames and 0x01 answers use the old key"
  pub unseen : (u v : TagUnit) (l : List Act) → well_formed u ≡ true → well_formed v ≡ true → AllBut (waiting ∷ []) u v → Connected l
      → Alike (runs slept l (start u)) (runs slept l (start v))
  -- "A second 0x02 in the same connection is still judged against the old key": it meets a unit with the key in force that the first met
  pub judged_by_old : (u : TagUnit) (first : Written) (room : ℕ) (l : List Act) → Accepts 0x02 (writes first room) u → Connected l
      → NoneIn (Accepts 0x03) l (after (writes first room ∷ []) u)
      → (after (writes first room ∷ l) u).identity ≡ u.identity
  -- it "replaces the waiting one": after the disconnect its data, "two blocks decrypted with the owner key", is the key in force
  pub second_comes_in : (u : TagUnit) (first : Written) (firstRoom : ℕ) (between : List Act) (second : Written) (room : ℕ) (later : List Act)
      (lent : ℕ) (key : List ℕ)
      → SetTwice u first firstRoom between second room later
      → OwnedWith (after (writes first firstRoom ∷ between) u) key
      → (after (writes first firstRoom ∷ between ++ (writes second room ∷ later ++ (calls disconnect lent ∷ []))) u).identity
      ≡ record { held = true; bytes = InvAES128 key (take 16 (drop 10 second.bytes)) ++ InvAES128 key (take 16 (drop 26 second.bytes)) }
