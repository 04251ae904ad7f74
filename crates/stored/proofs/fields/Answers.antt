-- `fields` meets its contract: each part from its place.
use Rattle.record_fields.specs.Part.{value_of}
use Rattle.stored.specs.Record.{unit_fields}
use Rattle.stored.proofs.fields.Goals as goal

pub returns : goal.returns
unfolding value_of unit_fields
returns c =
    rw (c.read.ensures, c.read-2.ensures, c.read-3.ensures, c.read-4.ensures, c.read-5.ensures, c.read-6.ensures)
    (rw (c.read-7.ensures, c.bytes.ensures, c.read-8.ensures, c.tenths.ensures, c.flag.ensures))
