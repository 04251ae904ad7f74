-- `kinds::put_byte` meets its contract: one store.
use Rattle.octets.proofs.Pasting.{puts_byte}
use native.Mathlib.Omega.{arith}
use Rattle.record_fields.proofs.kinds.put_byte.Goals as goal

pub returns : goal.returns
returns c =
    puts_byte c.args.to.now c.args.at c.args.b (omega (arith, c.requires))
