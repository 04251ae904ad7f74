-- `printing::elapsed` meets its contract: the title, the notes and the clock, one after another.
use lib.ListN.{take}
use lib.Seq.{length-take-le}
use mathlib.Core.Path.{sym}
use native.Mathlib.Omega.{arith}
use Rattle.notation.proofs.Placed.{puts_then}
use Rattle.printing.proofs.Texts.{length_notes}
use Rattle.printing.proofs.elapsed.Goals as goal

pub slice_bounds-notes-end : goal.slice_bounds-notes-end
slice_bounds-notes-end c = sym (length-take-le c.args.count c.args.answer.now (omega arith))

pub notes-noted-requires : goal.notes-noted-requires
notes-noted-requires c = (omega (arith, length-take-le c.args.count c.args.answer.now (omega arith)), omega arith)

pub decimal_line-requires : goal.decimal_line-requires
decimal_line-requires c =
    let known = c.args in
    let size = length-take-le known.count known.answer.now (omega arith) in
    omega (arith, length_notes known.tenth (take known.count known.answer.now) (omega arith))

pub returns : goal.returns
returns c =
    let known = c.args in
    let size = length-take-le known.count known.answer.now (omega arith) in
    let noted = length_notes known.tenth (take known.count known.answer.now) (omega arith) in
    puts_then c.put-next.ensures (puts_then c.notes-noted.ensures c.decimal_line.ensures (omega arith)) (omega arith)
