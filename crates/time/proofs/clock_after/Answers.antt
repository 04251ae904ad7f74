-- `time::clock_after` meets its contract: no sum wraps, and the quotients are the definition's.
use mathlib.Core.Path.{refl}
use Rattle.time.specs.Later.{clock_later}
use Rattle.time.proofs.clock_after.Goals as goal

pub returns : goal.returns
unfolding clock_later
returns c = refl
