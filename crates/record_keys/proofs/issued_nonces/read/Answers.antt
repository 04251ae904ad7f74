-- `issued_nonces::read` meets its contract: each field from its place.
use Rattle.record_fields.specs.Part.{value_of}
use Rattle.record_parts.specs.Groups.{nonces_fields}
use Rattle.record_keys.proofs.issued_nonces.read.Goals as goal

pub returns : goal.returns
unfolding value_of nonces_fields
returns c =
    rw (c.flag.ensures, c.bytes.ensures, c.bytes-2.ensures)
