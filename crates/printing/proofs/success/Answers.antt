-- `printing::success` meets its contract: the title, and then the bytes.
use native.Mathlib.Omega.{arith}
use mathlib.Core.Path.{sym}
use lib.Seq.{length-take-le}
use Rattle.notation.proofs.Placed.{puts_then}
use Rattle.printing.proofs.success.Goals as goal

pub slice_bounds-bytes-end : goal.slice_bounds-bytes-end
slice_bounds-bytes-end c =
    let known = c.args in
    sym (length-take-le known.count known.answer.now (omega arith))

pub bytes-requires : goal.bytes-requires
bytes-requires c =
    let known = c.args in
    (omega (arith, length-take-le known.count known.answer.now (omega arith)), omega arith)

pub returns : goal.returns
returns c = puts_then c.put-next.ensures c.bytes.ensures (omega arith)
