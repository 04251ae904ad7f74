-- What a call does to a unit, as a whole: the unit after it, its result, and for time the tenth at which a ring ended. And what
-- the promise of a call says of them.
use Rattle.std.specs.Prelude.{ℕ, ◌≡◌, cond, List, ltb}
use Rattle.laws.specs.Answer.{Result, gives, refuses, lent_after}
use Rattle.sizes.specs.Sizes.{answer_room}
use Rattle.unit.specs.Refusals.{end_of, ending}
use Rattle.unit.specs.WellFormed.{well_formed}
use Rattle.unit.specs.declared.TagUnit.{TagUnit}
use Rattle.unit.specs.Types.{Reply}

pub record Outcome : Type 0 where
  pub unit : TagUnit
  pub result : Result
  -- for elapsed time the tenth, counted from the call's start, at which a ring ended; else 0
  pub ended : ℕ

abbrev pub refusing : ℕ → TagUnit → Outcome
refusing n u = record { unit = u; result = refuses n; ended = 0 }

abbrev pub giving : List ℕ → TagUnit → Outcome
giving answer u = record { unit = u; result = gives answer; ended = 0 }

-- "Order: 6, 2, then the call's own": refusal 2 for a unit that is not well formed, and before it, for a call with answer bytes,
-- refusal 6 for too few of them
unfoldable pub formed : TagUnit → Outcome → Outcome
formed u own = cond (well_formed u) own (refusing 2 u)

unfoldable pub answering : ℕ → TagUnit → Outcome → Outcome
answering room u own = cond (ltb room answer_room) (refusing 6 u) (formed u own)

-- What a call without answer bytes promises
pub record Completes (o : Outcome) (unit : TagUnit) (reply : Reply) : Type 0 where
  pub unit_is : unit ≡ o.unit
  pub end_is : end_of reply ≡ ending o.result

-- What a call with answer bytes promises: also all of the lent bytes, which were `before` and are `after`
pub record Answers (o : Outcome) (unit : TagUnit) (reply : Reply) (before after : List ℕ) : Type 0 where
  pub unit_is : unit ≡ o.unit
  pub end_is : end_of reply ≡ ending o.result
  pub bytes_are : after ≡ lent_after o.result before
