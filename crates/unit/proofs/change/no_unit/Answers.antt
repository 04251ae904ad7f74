-- `unit::change::no_unit` meets its contract: the fresh unit, with a battery level that is none.
use mathlib.Core.Path.{ap}
use Rattle.unit.specs.Change.{with_battery, no_unit}
use Rattle.unit.proofs.change.no_unit.Goals as goal

pub returns : goal.returns
unfolding no_unit
returns c = ap (with_battery 255) c.fresh.ensures
