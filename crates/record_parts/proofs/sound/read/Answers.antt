-- `sound::read` meets its contract: by the byte that names the variant.
use borrow.Author.Tests.{eq-eqb, ne_eqb}
use Rattle.record_fields.specs.Part.{value_of}
use Rattle.record_parts.specs.Groups.{sound_fields}
use Rattle.record_parts.proofs.sound.read.Goals as goal

pub returns-then-from-at-eq1 : goal.returns-then-from-at-eq1
unfolding value_of sound_fields
returns-then-from-at-eq1 c =
    rw (eq-eqb _ _ c.if-from-at-eq1.true, c.tenths.ensures)

pub returns-else-from-at-eq1 : goal.returns-else-from-at-eq1
unfolding value_of sound_fields
returns-else-from-at-eq1 c =
    rw (ne_eqb _ _ c.if-from-at-eq1.false)
