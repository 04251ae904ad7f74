-- `message_schedule::word::small_sigma1` is σ1: its rotations are the library's.
use Rattle.message_schedule.specs.Schedule.{σ1}
use Rattle.message_schedule.proofs.word.small_sigma1.Goals as goal

pub returns : goal.returns
unfolding σ1
returns c = cc
