-- `rounds::block::inv_last_round` is the last inverse round, with its box.
use Rattle.rounds.proofs.block.inv_last_round.Goals as goal

pub returns : goal.returns
returns c = cc
