-- `message_schedule::word::big_sigma0` is Σ0: its rotations are the library's.
use Rattle.message_schedule.specs.Schedule.{Σ0}
use Rattle.message_schedule.proofs.word.big_sigma0.Goals as goal

pub returns : goal.returns
unfolding Σ0
returns c = cc
