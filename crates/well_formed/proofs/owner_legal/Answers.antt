-- `well_formed::owner_legal` meets its contract, a case of the owner each.
use Rattle.unit.specs.WellFormed.{owner_legal}
use Rattle.well_formed.proofs.owner_legal.Goals as goal

pub returns-in-None : goal.returns-in-None
unfolding owner_legal
returns-in-None c = cc

pub returns-in-Some : goal.returns-in-Some
unfolding owner_legal
returns-in-Some c = rw c.in-Some.is
