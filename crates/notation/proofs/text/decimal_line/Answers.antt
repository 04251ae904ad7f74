-- `notation::text::decimal_line` meets its contract: the number between two texts.
use native.Mathlib.Omega.{arith}
use Rattle.notation.proofs.Decimal.{length_decimal}
use Rattle.notation.proofs.Placed.{puts_around}
use Rattle.notation.proofs.text.decimal_line.Goals as goal

pub put-requires : goal.put-requires
put-requires c = omega (arith, length_decimal c.args.n)

pub returns : goal.returns
returns c = puts_around c.put-next.ensures c.decimal-end.ensures c.put.ensures (omega (arith, length_decimal c.args.n))
