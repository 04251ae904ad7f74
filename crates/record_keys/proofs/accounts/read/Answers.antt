-- `accounts::read` meets its contract: each field from its place.
use Rattle.record_fields.specs.Part.{value_of}
use Rattle.record_parts.specs.Groups.{accounts_fields}
use Rattle.record_keys.proofs.accounts.read.Goals as goal

pub returns : goal.returns
unfolding value_of accounts_fields
returns c =
    rw (c.count.ensures, c.read.ensures, c.bytes.ensures)
