-- `printing::notes` meets its contract: without a notice 0, else 1, the tenth and the notice.
use lib.ListN.{length-append}
use mathlib.Core.List.{[], ◌∷◌}
use native.Mathlib.Omega.{arith}
use Rattle.notation.specs.Text.{decimal, newline}
use Rattle.notation.proofs.Decimal.{length_decimal}
use Rattle.notation.proofs.Placed.{puts_then}
use Rattle.printing.proofs.Texts.{notes_none, notes_some}
use Rattle.printing.proofs.notes.Goals as goal

pub returns-then-answer-eq0 : goal.returns-then-answer-eq0
returns-then-answer-eq0 c = rw (notes_none c.args.tenth c.args.answer.now (omega arith)) at c.put.ensures

pub bytes-requires : goal.bytes-requires
bytes-requires c = (omega arith, omega (arith, length_decimal c.args.tenth, length-append (decimal c.args.tenth) (newline ∷ [])))

pub returns : goal.returns
returns c =
    let known = c.args in
    rw (notes_some known.tenth known.answer.now (omega arith)) at
    (puts_then c.decimal_line-next.ensures c.bytes.ensures (omega (arith, length_decimal known.tenth, length-append (decimal known.tenth) (newline ∷ []))))
