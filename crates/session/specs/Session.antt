-- A session of the code as a state of the feeding, and what the public calls promise.
use Rattle.std.specs.Prelude.{ℕ, suc, ◌+◌, ◌-◌, ◌≤◌, ◌<◌, ◌≡◌, Bool, true, false, cond, List, [], ◌∷◌, ◌++◌, leb, length, take, drop, ℤ, Option, Some, None}
use Rattle.session.specs.declared.Run.{Run}
use Rattle.session.specs.declared.Session.{Session}
use Rattle.printing.specs.Answers.{line_room, malformed_room}
use Rattle.lines.specs.Lines.{Expected}
use Rattle.lines.specs.Promises.{expecting}
use Rattle.session.specs.Replay as replay
use Rattle.session.specs.Replay.{longest_line, most_lines}
use Rattle.session.specs.Feeding.{State, reading, ended, byte, fed, finish, first}

abbrev pub expected_of : Run → Expected
expected_of run = expecting run.next run.power run.components (take run.filled run.kept)

-- a run with a part of a line
abbrev pub state_with : Run → List ℕ → State
state_with run part = cond run.ended ended (reading (expected_of run) run.number run.unit part)

abbrev pub state_of : Session → State
state_of s = state_with s.run (take s.count s.line)

-- Counts within their rooms. Any record may be handed in; those of the code's own making are bounded
pub record BoundedRun (run : Run) : Type 0 where
  pub numbered : run.number ≤ most_lines + 1
  pub within_kept : run.filled ≤ 128

pub record Bounded (s : Session) : Type 0 where
  pub bounded_run : BoundedRun s.run
  pub within_line : s.count ≤ longest_line

-- How many bytes of a piece are taken where `room` bytes are lent: one more while the room left holds what any line prints, and all of them
-- once the run has ended
unfoldable pub takes : ℕ → List ℕ → State → ℕ
takes room [] s = 0
takes room (b ∷ bs) ended = suc (length bs)
takes room (b ∷ bs) (reading e n u part) =
    cond (leb line_room room)
    (suc (takes (room - length (byte b (reading e n u part)).printed) bs (byte b (reading e n u part)).state))
    0

-- so a caller's loop ends: with that room, something of a piece that is not empty is taken
abbrev pub GoesOn : Type 0
GoesOn = (room b : ℕ) (bs : List ℕ) (s : State) → line_room ≤ room → 0 < takes room (b ∷ bs) s

-- What `feed` promises: how much of the piece it took, what it printed, the state after it, and all of the lent bytes. A session that is not
-- bounded takes nothing
pub record Feeds (s : Session) (piece before : List ℕ) (session : Session) (taken written : ℕ) (after : List ℕ) : Type 0 where
  pub taken_is : Bounded s → taken ≡ takes (length before) piece (state_of s)
  pub takes_nothing : (Bounded s → ⊥) → taken ≡ 0
  pub state_is : state_of session ≡ (fed (take taken piece) (state_of s)).state
  pub written_is : written ≡ length (fed (take taken piece) (state_of s)).printed
  pub bytes_are : after ≡ (fed (take taken piece) (state_of s)).printed ++ drop written before
  pub stays_bounded : Bounded s → Bounded session

-- Our own choice: with fewer lent bytes `finish` writes nothing and says so
abbrev pub finish_room : ℕ
finish_room = malformed_room

abbrev pub finished_as : List ℕ → List ℕ → Option ℕ
finished_as text before = cond (leb finish_room (length before)) (Some (length text)) None

abbrev pub finished_bytes : List ℕ → List ℕ → List ℕ
finished_bytes text before = cond (leb finish_room (length before)) (text ++ drop (length text) before) before

-- What `finish` promises
pub record Finishes (s : Session) (before : List ℕ) (r : Option ℕ) (after : List ℕ) : Type 0 where
  pub result_is : r ≡ finished_as (finish (state_of s)) before
  pub bytes_are : after ≡ finished_bytes (finish (state_of s)) before
