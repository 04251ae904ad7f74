-- Demand 3 holds. From a well-formed unit the tag's run over a list is the plain tag's, call by call, since every call keeps the unit well
-- formed and time is then the plain tag's time (Passing); and the plain run depends on the course alone (Course).
use mathlib.Core.Path.{◌≡◌, refl, sym, ap, ◌∙◌}
use mathlib.Core.Bool.{true}
use mathlib.Core.List.{List, [], ◌∷◌}
use Rattle.unit.specs.WellFormed.{well_formed}
use Rattle.unit.specs.declared.TagUnit.{TagUnit}
use Rattle.unit.specs.Change.{fresh}
use Rattle.tag.specs.Calls.{Act, calls, waits}
use Rattle.demanded_answers.specs.History.{step}
use Rattle.demanded_time.specs.Time.{World, start, called, slept, tenths_on, waited, ran, runs, course, Same, Slept, Demand3}
use Rattle.demanded_refusals.proofs.Formed.{formed}
use Rattle.demanded_time.proofs.Passing.{slept_waited}
use Rattle.demanded_time.proofs.Course.{follow, follows}

-- One act: the two tags come to the same, and the unit stays well formed
ran_same : (a : Act) (w : World) → well_formed w.unit ≡ true → ran slept a w ≡ ran waited a w
unfolding ran
ran_same (waits n room) w h = slept_waited n room w h
ran_same (calls c room) w h = refl

ran_unit : (a : Act) (w : World) → (ran slept a w).unit ≡ (step a w.unit).unit
unfolding ran slept called
ran_unit (waits n room) w = refl
ran_unit (calls c room) w = refl

ran_formed : (a : Act) (w : World) → well_formed w.unit ≡ true → well_formed (ran slept a w).unit ≡ true
ran_formed a w h = rw (ran_unit a w) (formed.kept a w.unit h)

-- A whole list, from any well-formed unit
pub plain_run : (l : List Act) (w : World) → well_formed w.unit ≡ true → runs slept l w ≡ runs waited l w
unfolding runs
plain_run [] w h = refl
plain_run (a ∷ l) w h = plain_run l (ran slept a w) (ran_formed a w h) ∙ ap (runs waited l) (ran_same a w h)

pub course_run : (l : List Act) (w : World) → runs waited l w ≡ follow (course l) w
unfolding tenths_on
course_run l w = follows 0 l w

same : {v w : World} → v ≡ w → Same v w
same e = record { answers = ap World.answers e; notifications = ap World.notifications e; unit = ap World.unit e }

from_formed : (u : TagUnit) → well_formed u ≡ true → (xs ys : List Act) → course xs ≡ course ys → Slept (start u) xs ys
from_formed u legal xs ys e =
    record {
      alike = same (first ∙ course_run xs (start u) ∙ ap (λ c. follow c (start u)) e ∙ sym (course_run ys (start u)) ∙ sym second);
      first = same first;
      second = same second;
    }
  where
    first : runs slept xs (start u) ≡ runs waited xs (start u)
    first = plain_run xs (start u) legal

    second : runs slept ys (start u) ≡ runs waited ys (start u)
    second = plain_run ys (start u) legal

pub demand3 : Demand3
demand3 =
    record {
      formed = from_formed;
      freshly = λ s legal xs ys e. from_formed (fresh s) (formed.freshly s legal) xs ys e;
    }
