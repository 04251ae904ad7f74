-- `rounds::block::cipher` is the full rounds and the last one.
use Rattle.rounds.specs.Rounds.{Cipher}
use Rattle.rounds.proofs.block.cipher.Goals as goal

pub returns : goal.returns
unfolding Cipher
returns c = cc
