-- `issued_nonces::put` meets its contract: one field right behind the other.
use native.Mathlib.Omega.{arith}
use Rattle.octets.proofs.Pasting.{puts_then}
use Rattle.record_fields.proofs.Placing.{puts_none}
use Rattle.record_fields.specs.Part.{bytes_of}
use Rattle.record_parts.specs.Groups.{nonces_fields}
use Rattle.record_keys.proofs.issued_nonces.put.Goals as goal

pub returns : goal.returns
unfolding bytes_of nonces_fields
returns c =
    puts_then (puts_then (puts_then (puts_then (puts_none c.args.at c.args.to.now)
    c.put_byte.ensures (omega (arith, c.requires)))
    c.put_flag.ensures (omega (arith, c.requires)))
    c.put_bytes.ensures (omega (arith, c.requires)))
    c.put_bytes-2.ensures (omega (arith, c.requires))
