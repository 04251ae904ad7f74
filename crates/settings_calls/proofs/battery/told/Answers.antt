-- `settings_calls::battery::told` meets its contract: the unit is changed where the level is in range.
use Rattle.unit.proofs.Ends.{refused_completes, done_completes}
use Rattle.settings_calls.specs.Settings.{charged}
use Rattle.sizes.specs.Sizes.{highest_battery}
use borrow.Author.Tests.{le-leb, lt-leb}
use Rattle.settings_calls.proofs.battery.told.Goals as goal

pub returns-then-level : goal.returns-then-level
unfolding charged
returns-then-level c = rw (lt-leb _ highest_battery c.if-level.true) (refused_completes c.refuse.ensures)

pub returns : goal.returns
unfolding charged
returns c = rw (le-leb _ highest_battery c.if-level.false) (done_completes c.accept.ensures)
