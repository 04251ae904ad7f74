-- "Replay file": the events, what each does on the unit, and what is printed of it. "Answer room is always 42."
use Rattle.std.specs.Prelude.{ℕ, List, ◌++◌}
use Prim.Native.String.{String}
use Rattle.laws.specs.Answer.{Result, gives, refuses}
use Rattle.unit.specs.declared.TagUnit.{TagUnit}
use Rattle.sizes.specs.Sizes.{answer_room}
use Rattle.unit.specs.Outcome.{Outcome}
use Rattle.tag.specs.Calls as tag
use Rattle.tag.specs.Calls.{Call, read, write, button, pairing, battery, account_key, disconnect, frame, call}
use Rattle.notation.specs.Text.{ascii, decimal}
use Rattle.printing.specs.Texts.{line, bytes_text, notes_text, refused_text}

-- a call of the tag, or time
pub data Event : Type 0 where
  asks : (c : Call) → Event
  elapsed : (tenths : ℕ) → Event

unfoldable pub performed : Event → TagUnit → Outcome
performed (asks c) u = call c answer_room u
performed (elapsed n) u = tag.elapsed n answer_room u

abbrev pub name_of : Call → String
name_of (read nonce) = "read"
name_of (write w) = "write"
name_of button = "button"
name_of (pairing on) = "pairing"
name_of (battery level) = "battery"
name_of (account_key k) = "key"
name_of disconnect = "disconnect"
name_of frame = "frame"

-- "A success prints answer= and the event's name"
unfoldable pub success_text : Event → Outcome → List ℕ → List ℕ
success_text (asks c) o answer = line "answer=" (ascii (name_of c)) ++ bytes_text answer
success_text (elapsed n) o answer =
    line "answer=" (ascii "elapsed") ++ (notes_text o.ended answer ++ line "clock=" (decimal o.unit.clock.seconds))

unfoldable pub printed : Event → Outcome → Result → List ℕ
printed e o (gives answer) = success_text e o answer
printed e o (refuses n) = refused_text n
