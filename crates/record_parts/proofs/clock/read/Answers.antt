-- `clock::read` meets its contract: each field from its place.
use Rattle.record_fields.specs.Part.{value_of}
use Rattle.record_parts.specs.Groups.{clock_fields}
use Rattle.record_parts.proofs.clock.read.Goals as goal

pub returns : goal.returns
unfolding value_of clock_fields
returns c =
    rw c.seconds.ensures
