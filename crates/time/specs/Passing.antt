-- What `elapsed` promises beside the unit, the end and the lent bytes: the tenth that it reports.
use Rattle.std.specs.Prelude.{ℕ, ◌≡◌, List}
use Rattle.unit.specs.declared.TagUnit.{TagUnit}
use Rattle.unit.specs.Types.{Reply}
use Rattle.unit.specs.Outcome.{Outcome, Answers}

pub record Passes (o : Outcome) (unit : TagUnit) (reply : Reply) (ended : ℕ) (before after : List ℕ) : Type 0 where
  pub answers : Answers o unit reply before after
  pub ended_is : ended ≡ o.ended
