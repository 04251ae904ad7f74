-- `protection::read` meets its contract: what its byte means.
use Rattle.record_fields.specs.Part.{value_of}
use Rattle.record_parts.specs.Groups.{protection_fields}
use Rattle.record_parts.proofs.protection.read.Goals as goal

pub returns : goal.returns
unfolding value_of protection_fields
returns c = c.of_byte.ensures
