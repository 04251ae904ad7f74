-- `protection::put` meets its contract: its byte.
use native.Mathlib.Omega.{arith}
use Rattle.octets.proofs.Pasting.{puts_then}
use Rattle.record_fields.proofs.Placing.{puts_none}
use Rattle.record_fields.specs.Part.{bytes_of}
use Rattle.record_parts.specs.Groups.{protection_fields}
use Rattle.record_parts.proofs.protection.put.Goals as goal

pub returns : goal.returns
unfolding bytes_of protection_fields
returns c =
    puts_then (puts_none c.args.at c.args.to.now)
    (rw c.byte_of.ensures at c.put_byte.ensures) (omega (arith, c.requires))
