-- `message_schedule::word::small_sigma0` is σ0: its rotations are the library's.
use Rattle.message_schedule.specs.Schedule.{σ0}
use Rattle.message_schedule.proofs.word.small_sigma0.Goals as goal

pub returns : goal.returns
unfolding σ0
returns c = cc
