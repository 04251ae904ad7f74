-- A list of elapsed calls comes to as many single tenths as it has in all (Time, Course, Passing): so a sleep is told by its total.
use Prim.Native.Nat.{ℕ, ◌+◌}
use mathlib.Core.Path.{◌≡◌, sym, ap, ◌∙◌}
use mathlib.Core.Bool.{true, cond}
use mathlib.Core.List.{List, [], ◌∷◌}
use native.Mathlib.Omega.{arith}
use lib.Dec.{leb}
use Rattle.unit.specs.declared.TagUnit.{TagUnit}
use Rattle.unit.specs.WellFormed.{well_formed}
use Rattle.tag.specs.Calls.{Act, calls, waits}
use Rattle.demanded_answers.specs.History.{after}
use Rattle.demanded_time.specs.Time.{World, start, slept, runs, Course, ends, course_after}
use Rattle.demanded_nonces.specs.Among.{tenths_in}
use Rattle.demanded_time.specs.SleepUntil.{OnlyTime}
use Rattle.demanded_time.proofs.Course.{follow}
use Rattle.demanded_time.proofs.Passing.{passed, single}
use Rattle.demanded_time.proofs.Time.{plain_run, course_run}
use Rattle.demanded_time.proofs.RingLasts.{runs_unit}
use Rattle.sleep.specs.Sleep.{later_by}

total : (t : ℕ) (l : List Act) → OnlyTime l → course_after t l ≡ ends (t + tenths_in l)
unfolding course_after
total t [] only = let same : t ≡ t + 0 = omega arith in ap ends same
total t (waits n room ∷ l) only =
    let same : t + cond (leb 42 room) n 0 + tenths_in l ≡ t + (cond (leb 42 room) n 0 + tenths_in l) = omega arith in
    total (t + cond (leb 42 room) n 0) l only ∙ ap ends same
total t (calls c room ∷ l) only = absurd only

module _ (u : TagUnit) (w : well_formed u ≡ true) (l : List Act) (only : OnlyTime l) where
  pub sleep_comes : runs slept l (start u) ≡ passed (tenths_in l) (start u)
  unfolding follow
  sleep_comes =
      let all : 0 + tenths_in l ≡ tenths_in l = omega arith in
      plain_run l (start u) w
      ∙ course_run l (start u)
      ∙ ap (λ (c : Course). follow c (start u)) (total 0 l only ∙ ap ends all)
      ∙ single (tenths_in l) (start u)

  pub sleep_unit : after l u ≡ later_by (tenths_in l) u
  sleep_unit = sym (runs_unit l (start u)) ∙ ap (λ (v : World). v.unit) sleep_comes
