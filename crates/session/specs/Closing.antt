-- What the inner functions of `session`, `pieces` and `replay` promise, over the types of the code. No promise of a public call cites it.
use Rattle.std.specs.Prelude.{ℕ, ◌+◌, ◌≤◌, ◌≡◌, Bool, true, false, List, [], length}
use Rattle.unit.specs.declared.TagUnit.{TagUnit}
use Rattle.notation.specs.Written.{PutsText}
use Rattle.printing.specs.Answers.{line_room}
use Rattle.lines.specs.declared.Next.{Next}
use Rattle.lines.specs.Lines.{Line}
use Rattle.session.specs.declared.Run.{Run}
use Rattle.session.specs.declared.Session.{Session}
use Rattle.session.specs.Replay.{longest_line, most_lines}
use Rattle.session.specs.Feeding.{Fed, byte, closed}
use Rattle.session.specs.Session.{Bounded, BoundedRun, state_of, state_with}

-- a test of those counts
pub record BoundedBy (s : Session) (answer : Bool) : Type 0 where
  pub bounded_if : answer ≡ true → Bounded s
  pub only_if : Bounded s → answer ≡ true

-- what a function that closes a line promises: what is printed is few, and stands at its place
pub record Closes (f : Fed) (at : ℕ) (before : List ℕ) (run : Run) (written : ℕ) (after : List ℕ) : Type 0 where
  pub state_is : state_with run [] ≡ f.state
  pub bounded : BoundedRun run
  pub few : length f.printed ≤ line_room
  pub puts : PutsText f.printed at before written after

-- a run that reads on, with room for what a line prints
pub record Ready (run : Run) (at : ℕ) (out : List ℕ) : Type 0 where
  pub going : run.ended ≡ false
  pub bounded : BoundedRun run
  pub counted : run.number ≤ most_lines
  pub room : at + line_room ≤ length out

-- the same before the line's number is judged
pub record Closing (run : Run) (line : List ℕ) (at : ℕ) (out : List ℕ) : Type 0 where
  pub going : run.ended ≡ false
  pub bounded : BoundedRun run
  pub short : length line ≤ longest_line
  pub room : at + line_room ≤ length out

-- closing this line
abbrev pub ClosesLine : Line → Run → ℕ → List ℕ → Run → ℕ → List ℕ → Type 0
ClosesLine l run at before run' written after = Closes (closed l run.number run.unit) at before run' written after

-- the run with the next line's number, what is expected there, and a unit
abbrev pub moved : Next → TagUnit → Run → Run
moved n u run =
    record {
      ended = run.ended;
      next = n;
      number = run.number + 1;
      power = run.power;
      components = run.components;
      kept = run.kept;
      filled = run.filled;
      unit = u;
    }

-- a session that reads on, with room for what a line prints
pub record Awaits (s : Session) (at : ℕ) (out : List ℕ) : Type 0 where
  pub going : s.run.ended ≡ false
  pub bounded : Bounded s
  pub room : at + line_room ≤ length out

-- what taking a byte promises
pub record Takes (s : Session) (b at : ℕ) (before : List ℕ) (session : Session) (written : ℕ) (after : List ℕ) : Type 0 where
  pub state_is : state_of session ≡ (byte b (state_of s)).state
  pub bounded : Bounded session
  pub few : length (byte b (state_of s)).printed ≤ line_room
  pub puts : PutsText (byte b (state_of s)).printed at before written after
  pub line_stays : length s.line ≡ longest_line → length session.line ≡ longest_line
