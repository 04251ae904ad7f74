-- `encode` meets its contract: the parts, one right behind the other, fill the record.
use native.Mathlib.Omega.{arith}
use mathlib.Core.Path.{◌≡◌}
use lib.ListN.{length}
use Rattle.octets.proofs.Pasting.{puts_then, puts_all}
use Rattle.record_fields.proofs.Placing.{puts_none}
use Rattle.record_fields.specs.Part.{bytes_of}
use Rattle.stored.specs.Record.{unit_fields, record_size, encoded}
use Rattle.stored.proofs.encode.Goals as goal

pub returns : goal.returns
unfolding encoded bytes_of unit_fields
returns c =
    let begun : length c.put_byte.new.to ≡ record_size = omega (arith, c.requires, c.put_byte.auto.to) in
    puts_all (puts_then c.put_byte.ensures
    (puts_then (puts_then (puts_then (puts_then (puts_then (puts_then (puts_then (puts_then (puts_then (puts_then (puts_then (puts_then (puts_none 1 c.put_byte.new.to)
    c.put.ensures (omega arith))
    c.put-2.ensures (omega arith))
    c.put-3.ensures (omega arith))
    c.put-4.ensures (omega arith))
    c.put-5.ensures (omega arith))
    c.put-6.ensures (omega arith))
    c.put-7.ensures (omega arith))
    c.put_bytes.ensures (omega arith))
    c.put-8.ensures (omega arith))
    c.put_tenths.ensures (omega arith))
    c.put_flag.ensures (omega arith))
    c.put_byte-2.ensures (omega arith)) (omega (arith, c.requires)))
    c.requires
