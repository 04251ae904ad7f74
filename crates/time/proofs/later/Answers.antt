-- `time::later` meets its contract: clock and consent are those of the definition.
use Rattle.time.specs.Later.{unit_later}
use Rattle.time.proofs.later.Goals as goal

pub returns : goal.returns
unfolding unit_later
returns c = rw (c.clock_after.ensures, c.consent_after.ensures)
