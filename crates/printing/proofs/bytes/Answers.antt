-- `printing::bytes` meets its contract: no bytes print nothing.
use native.Mathlib.Omega.{arith}
use Rattle.notation.proofs.Placed.{puts_nothing}
use Rattle.printing.proofs.Texts.{bytes_none, bytes_some}
use Rattle.printing.proofs.bytes.Goals as goal

pub returns-then-answer-eq0 : goal.returns-then-answer-eq0
returns-then-answer-eq0 c = rw (← bytes_none c.args.answer.now (omega arith)) (puts_nothing c.args.at c.args.out.now)

pub returns : goal.returns
returns c = rw (bytes_some c.args.answer.now (omega arith)) at c.hex_line.ensures
