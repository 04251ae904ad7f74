-- `settings::read` meets its contract: each field from its place.
use mathlib.Core.Path.{◌≡◌}
use mir.Syntax.{w32}
use mir.Val.{to_z, of_z}
use Rattle.record_fields.specs.Part.{value_of}
use Rattle.record_parts.specs.Groups.{settings_fields}
use borrow.Author.Rules.{rules}
use Rattle.record_parts.proofs.settings.read.Goals as goal

pub returns : goal.returns
unfolding value_of settings_fields
returns c =
    let kept : to_z w32 (of_z w32 c.power.result) ≡ c.power.result = search rules in
    rw (kept, c.power.ensures)
