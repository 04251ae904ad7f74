-- `unit::mask::inside` meets its contract: the mask that it tests against is the ringable one.
use Rattle.unit.proofs.mask.inside.Goals as goal

pub returns : goal.returns
returns c = cc
