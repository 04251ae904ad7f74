-- `message_schedule::word::big_sigma1` is Σ1: its rotations are the library's.
use Rattle.message_schedule.specs.Schedule.{Σ1}
use Rattle.message_schedule.proofs.word.big_sigma1.Goals as goal

pub returns : goal.returns
unfolding Σ1
returns c = cc
