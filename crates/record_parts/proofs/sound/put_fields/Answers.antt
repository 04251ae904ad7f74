-- `sound::put_fields` meets its contract: one field right behind the other.
use native.Mathlib.Omega.{arith}
use Rattle.octets.proofs.Pasting.{puts_then}
use Rattle.record_fields.proofs.Placing.{puts_none}
use Rattle.record_parts.proofs.sound.put_fields.Goals as goal

pub returns : goal.returns
returns c =
    puts_then (puts_then (puts_then (puts_then (puts_none c.args.at c.args.to.now)
    c.put_byte.ensures (omega (arith, c.requires)))
    c.put_byte-2.ensures (omega (arith, c.requires)))
    c.put_byte-3.ensures (omega (arith, c.requires)))
    c.put_tenths.ensures (omega (arith, c.requires))
