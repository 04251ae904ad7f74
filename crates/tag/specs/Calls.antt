-- Every call of the tag, as one type with its arguments, and what it does on a unit: the unit after it and what it gives. `room` is the
-- number of lent answer bytes.
use Rattle.std.specs.Prelude.{ℕ, Bool, true, false, cond, List, []}
use Rattle.unit.specs.declared.TagUnit.{TagUnit}
use Rattle.unit.specs.Change.{with_pairing}
use Rattle.unit.specs.Outcome.{Outcome, giving, formed, answering}
use Rattle.requests.specs.Write.{written}
use Rattle.time.specs.Time.{tenths}
use Rattle.advertising.specs.Showing.{showing}
use Rattle.read_call.specs.Read.{issuing}
use Rattle.press_call.specs.Press.{pressed}
use Rattle.key_calls.specs.Keys.{keeping, disconnected}
use Rattle.settings_calls.specs.Settings.{charged}

-- what a phone writes, and the mask of reachable parts that the host lends with it
pub record Written : Type 0 where
  pub bytes : List ℕ
  pub reach : ℕ

-- A call on a unit, with its arguments. Time is apart: see `Act`
pub data Call : Type 0 where
  read : (nonce : List ℕ) → Call
  write : (w : Written) → Call
  button : Call
  pairing : (on : Bool) → Call
  battery : (level : ℕ) → Call
  account_key : (key : List ℕ) → Call
  disconnect : Call
  frame : Call

-- what it does on a unit that passed the guards
unfoldable pub own : Call → TagUnit → Outcome
own (read nonce) u = issuing nonce u
own (write w) u = written u w.bytes w.reach
own button u = pressed u.sound u
own (pairing on) u = giving [] (with_pairing on u)
own (battery level) u = charged level u
own (account_key key) u = keeping key u
own disconnect u = disconnected u
own frame u = showing u

-- "Calls with answer bytes: read, write, button, elapsed, frame"
abbrev pub lends : Call → Bool
lends (read nonce) = true
lends (write w) = true
lends button = true
lends (pairing on) = false
lends (battery level) = false
lends (account_key key) = false
lends disconnect = false
lends frame = true

-- "Order: 6, 2, then the call's own": 6 only where there are answer bytes
unfoldable pub guarded : Bool → ℕ → TagUnit → Outcome → Outcome
guarded lent room u o = cond lent (answering room u o) (formed u o)

unfoldable pub call : Call → ℕ → TagUnit → Outcome
call c room u = guarded (lends c) room u (own c u)

-- Time: the one-tenth rule, n times
unfoldable pub elapsed : ℕ → ℕ → TagUnit → Outcome
elapsed n room u = guarded true room u (tenths n u)

-- What a host does with a unit: it makes a call, or lets time pass
pub data Act : Type 0 where
  calls : (c : Call) (room : ℕ) → Act
  waits : (tenths room : ℕ) → Act

unfoldable pub act : Act → TagUnit → Outcome
act (calls c room) u = call c room u
act (waits n room) u = elapsed n room u
