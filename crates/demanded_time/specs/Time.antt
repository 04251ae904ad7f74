-- Demand 3, the tag sleeps: two lists of calls with the same calls other than time and equal total time between them give the same
-- answers, the same notifications at the same tenth and the same final unit, however the time is cut; and all of it equals what the plain
-- tag, moving one tenth at a time, gives. One claim about whole lists.
use Rattle.std.specs.Prelude.{ℕ, zero, suc, ◌+◌, ◌≡◌, Bool, true, cond, ◌&&◌, List, [], ◌∷◌, ◌++◌, leb, eqb, get_or}
use Rattle.laws.specs.Answer.{Result, gives, refuses}
use Rattle.wire.specs.Signing.{ring_id}
use Rattle.unit.specs.declared.TagUnit.{TagUnit}
use Rattle.unit.specs.declared.Settings.{Settings}
use Rattle.sizes.specs.Sizes.{answer_room}
use Rattle.unit.specs.Change.{fresh}
use Rattle.unit.specs.WellFormed.{settings_legal, well_formed}
use Rattle.time.specs.Time.{one_tenth, ends_next, timeout_notice}
use Rattle.tag.specs.Calls.{Call, lends, Act, calls, waits}
use Rattle.demanded_answers.specs.History.{step}

-- A ring notice with its tenth
pub record Notification : Type 0 where
  pub tenth : ℕ
  pub notice : List ℕ

-- What a run has come to: the unit, the count of tenths, the answers to the calls, and the notifications, in order. An
-- answer is the refusal number, or success with the bytes written
pub record World : Type 0 where
  pub unit : TagUnit
  pub count : ℕ
  pub answers : List Result
  pub notifications : List Notification

-- "room or no room"
abbrev pub roomy : ℕ → Bool
roomy room = leb answer_room room

-- the bytes that a call gave; and of them a ring notice, which is told by its ID, 0x05: the notice of a button, the answer to an accepted
-- 0x05
abbrev pub bytes_given : Result → List ℕ
bytes_given (gives answer) = answer
bytes_given (refuses n) = []

abbrev pub noticed : Result → List ℕ
noticed r = cond (eqb (get_or (bytes_given r) 0 0) ring_id) (bytes_given r) []

-- a notification at a tenth, where there is a notice
abbrev pub at : ℕ → List ℕ → List Notification
at t [] = []
at t (b ∷ bs) = record { tenth = t; notice = b ∷ bs } ∷ []

-- A call, for the tag and for the plain tag alike
unfoldable pub called : Call → ℕ → World → World
called c room w =
    record {
      unit = (step (calls c room) w.unit).unit;
      count = w.count;
      answers = w.answers ++ ((step (calls c room) w.unit).result ∷ []);
      notifications = w.notifications ++ at w.count (noticed (step (calls c room) w.unit).result);
    }

-- The tag's time: one call of `elapsed`. A notification's tenth is the tenths of all earlier elapsed calls with room plus the tenth
-- reported
unfoldable pub slept : ℕ → ℕ → World → World
slept n room w =
    record {
      unit = (step (waits n room) w.unit).unit;
      count = w.count + cond (roomy room) n 0;
      answers = w.answers;
      notifications =
          w.notifications
          ++ at (w.count + (step (waits n room) w.unit).ended) (bytes_given (step (waits n room) w.unit).result);
    }

-- The plain tag's time: single tenths, each adding one to the count before any notice; without room, nothing
unfoldable pub tenth_on : World → World
tenth_on w =
    record {
      unit = one_tenth w.unit;
      count = suc w.count;
      answers = w.answers;
      notifications = w.notifications ++ at (suc w.count) (cond (ends_next w.unit.sound) (timeout_notice w.unit) []);
    }

unfoldable pub tenths_on : ℕ → World → World
tenths_on zero w = w
tenths_on (suc n) w = tenth_on (tenths_on n w)

unfoldable pub waited : ℕ → ℕ → World → World
waited n room w = cond (roomy room) (tenths_on n w) w

-- A run over a list of calls: of the tag, and of the plain tag, which differ only in time
module _ (time : ℕ → ℕ → World → World) where
  unfoldable pub ran : Act → World → World
  ran (waits n room) w = time n room w
  ran (calls c room) w = called c room w

  unfoldable pub runs : List Act → World → World
  runs [] w = w
  runs (a ∷ l) w = runs l (ran a w)

-- The course of a list: the calls, of whose lent bytes only room or no room counts, with the total time before, between and after them. A
-- refused elapsed call counts as none
pub data Course : Type 0 where
  ends : ℕ → Course
  next : ℕ → Call → ℕ → Course → Course

abbrev pub bare_room : Call → ℕ → ℕ
bare_room c room = cond (lends c && roomy room) answer_room 0

unfoldable pub course_after : ℕ → List Act → Course
course_after t [] = ends t
course_after t (waits n room ∷ l) = course_after (t + cond (roomy room) n 0) l
course_after t (calls c room ∷ l) = next t c (bare_room c room) (course_after 0 l)

abbrev pub course : List Act → Course
course l = course_after 0 l

-- what is compared of two runs: answers, timed notifications in order, and the final unit
pub record Same (v w : World) : Type 0 where
  pub answers : v.answers ≡ w.answers
  pub notifications : v.notifications ≡ w.notifications
  pub unit : v.unit ≡ w.unit

-- Two lists from one unit: both come to the same, and each to what the plain tag comes to
pub record Slept (w : World) (xs ys : List Act) : Type 0 where
  pub alike : Same (runs slept xs w) (runs slept ys w)
  pub first : Same (runs slept xs w) (runs waited xs w)
  pub second : Same (runs slept ys w) (runs waited ys w)

abbrev pub start : TagUnit → World
start u = record { unit = u; count = 0; answers = []; notifications = [] }

-- The claim, from any well-formed unit; and as the client puts it, from equal fresh units with any legal settings
pub record Demand3 : Type 0 where
  pub formed : (u : TagUnit) → well_formed u ≡ true → (xs ys : List Act) → course xs ≡ course ys → Slept (start u) xs ys
  pub freshly : (s : Settings) → settings_legal s ≡ true → (xs ys : List Act) → course xs ≡ course ys → Slept (start (fresh s)) xs ys
