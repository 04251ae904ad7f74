-- `identifier::pseudorandom` meets its contract: the two halves of table 10 under one key.
use Rattle.identifier.specs.Identifier.{pseudorandom}
use Rattle.identifier.proofs.pseudorandom.Goals as goal

pub returns : goal.returns
unfolding pseudorandom
returns c = cc
