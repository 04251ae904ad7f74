-- What the functions of this crate promise, over the types of the code.
use Rattle.std.specs.Prelude.{ℕ, ◌≤◌, ◌≡◌, List, length}
use Rattle.unit.specs.declared.TagUnit.{TagUnit}
use Rattle.printing.specs.Answers.{line_room}
use Rattle.events.specs.declared.Ask.{Ask}
use Rattle.events.specs.declared.Ask.TheVariants as ask
use Rattle.events.specs.declared.Setting.{Setting}
use Rattle.events.specs.declared.Setting.TheVariants as setting
use Rattle.events.specs.declared.Event as code
use Rattle.events.specs.declared.Event.TheVariants as event
use Rattle.notation.specs.Written.{PutsText}
use Rattle.tag.specs.Calls.{Call, read, write, button, pairing, battery, account_key, disconnect, frame}
use Rattle.events.specs.Event.{Event, asks, elapsed, performed, printed}

-- what an event of the code stands for, with its number, the bytes kept from the line before, and its bytes, which stand beside it
abbrev pub ask_of : Ask → ℕ → List ℕ → List ℕ → Call
ask_of ask.Read n kept b = read b
ask_of ask.Write n kept b = write (record { bytes = kept; reach = n })
ask_of ask.Button n kept b = button
ask_of ask.Frame n kept b = frame

abbrev pub setting_of : Setting → ℕ → List ℕ → Call
setting_of (setting.Pairing flag) n b = pairing flag
setting_of setting.Battery n b = battery n
setting_of setting.Key n b = account_key b
setting_of setting.Disconnect n b = disconnect

abbrev pub event_of : code.Event → ℕ → List ℕ → List ℕ → Event
event_of (event.Asks a) n kept b = asks (ask_of a n kept b)
event_of (event.Sets s) n kept b = asks (setting_of s n b)
event_of event.Elapsed n kept b = elapsed n

-- what performing an event promises
pub record Performs (e : Event) (u : TagUnit) (at : ℕ) (before : List ℕ) (unit : TagUnit) (written : ℕ) (after : List ℕ) : Type 0 where
  pub unit_is : unit ≡ (performed e u).unit
  pub few : length (printed e (performed e u) (performed e u).result) ≤ line_room
  pub puts : PutsText (printed e (performed e u) (performed e u).result) at before written after
