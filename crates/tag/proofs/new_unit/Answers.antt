-- `tag::new_unit` meets its contract: the settings are handed on.
use mir.Facts.{to_z-of_z}
use Rattle.tag.proofs.new_unit.Goals as goal

pub returns : goal.returns
returns c = rw (to_z-of_z c.ranges.power) at c.new_unit.ensures
