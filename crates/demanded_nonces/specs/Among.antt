-- What stands among the calls of a list, in the paper's terms and literal numbers: a write that was accepted, by its ID, a press of the
-- button with room, an accepted ring or stop by the status of its notice, a disconnect that brings a key in, and the tenths that its elapsed calls come to.
use Rattle.std.specs.Prelude.{ℕ, ◌+◌, ◌≤◌, ◌≡◌, true, cond, List, [], ◌∷◌, leb, get_or}
use Rattle.laws.specs.Answer.{gives}
use Rattle.unit.specs.declared.TagUnit.{TagUnit}
use Rattle.unit.specs.WellFormed.{well_formed}
use Rattle.tag.specs.Calls.{Written, write, button, disconnect, Act, calls, waits}
use Rattle.demanded_answers.specs.History.{step, Succeeds}

-- no act of the list, from the unit on, is such on the unit that it meets
abbrev pub NoneIn : (Act → TagUnit → Type 0) → List Act → TagUnit → Type 0
NoneIn Such [] u = Unit {0}
NoneIn Such (a ∷ l) u = (Such a u → ⊥) × NoneIn Such l (step a u).unit

-- a write of this ID, "A write is ID, length, ..", that succeeded on the unit
pub data Accepts (id : ℕ) : Act → TagUnit → Type 0 where
  accepts : {w : Written} {room : ℕ} {u : TagUnit} → get_or w.bytes 0 0 ≡ id → Succeeds (calls (write w) room) u → Accepts id (calls (write w) room) u

-- an accepted 0x05 whose notice has this status: "data: status (0 started, ..), mask, tenths left", behind the 10 bytes of ID, length and tag; and
-- "failed (status 0x01)"
pub data Notifies (status : ℕ) : Act → TagUnit → Type 0 where
  notifies : {w : Written} {room : ℕ} {u : TagUnit} {answer : List ℕ} → get_or w.bytes 0 0 ≡ 0x05
      → (step (calls (write w) room) u).result ≡ gives answer
      → get_or answer 10 0 ≡ status
      → Notifies status (calls (write w) room) u

-- a press with room for an answer, "6 | lent answer bytes fewer than 42"
pub data Presses : Act → Type 0 where
  presses : {room : ℕ} → 42 ≤ room → Presses (calls button room)

-- "a disconnect that brings a waiting key in": on a well-formed unit, as it is else refused with 2, on which a key waits
pub data BringsIn : Act → TagUnit → Type 0 where
  brings_in : {room : ℕ} {u : TagUnit} → well_formed u ≡ true → u.waiting.held ≡ true → BringsIn (calls disconnect room) u

-- "A refused elapsed call counts as no time."
abbrev pub tenths_in : List Act → ℕ
tenths_in [] = 0
tenths_in (waits n room ∷ l) = cond (leb 42 room) n 0 + tenths_in l
tenths_in (calls c room ∷ l) = tenths_in l
