-- `identity::read` meets its contract: each field from its place.
use Rattle.record_fields.specs.Part.{value_of}
use Rattle.record_parts.specs.Groups.{identity_fields}
use Rattle.record_keys.proofs.identity.read.Goals as goal

pub returns : goal.returns
unfolding value_of identity_fields
returns c =
    rw (c.flag.ensures, c.bytes.ensures)
