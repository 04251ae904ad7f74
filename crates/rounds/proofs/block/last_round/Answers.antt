-- `rounds::block::last_round` is the last round, with its box.
use Rattle.rounds.proofs.block.last_round.Goals as goal

pub returns : goal.returns
returns c = cc
