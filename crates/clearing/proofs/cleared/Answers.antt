-- `clearing::cleared` meets its contract.
use Rattle.clearing.specs.Clearing.{cleared}
use Rattle.clearing.proofs.cleared.Goals as goal

pub returns : goal.returns
unfolding cleared
returns c = rw c.fresh.ensures
