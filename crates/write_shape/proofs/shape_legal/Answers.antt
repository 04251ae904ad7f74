-- `write_shape::shape_legal` meets its contract: two bytes, a length that is legal for the ID, and as many bytes.
use Rattle.write_shape.proofs.Shaped.{shape_short, shape_sized, shape_unsized}
use mathlib.Core.Path.{sym}
use native.Mathlib.Omega.{arith}
use Rattle.write_shape.proofs.shape_legal.Goals as goal

pub returns-then-w-lt2 : goal.returns-then-w-lt2
returns-then-w-lt2 c = sym (shape_short c.args.w.now c.if-w-lt2.true)

pub overflow_cast-result : goal.overflow_cast-result
overflow_cast-result c = omega (arith, c.shared_slice_known-then-size_legal-1.given 1)

pub overflow_add-result : goal.overflow_add-result
overflow_add-result c = omega (arith, c.shared_slice_known-then-size_legal-1.given 1)

pub returns-then-size_legal : goal.returns-then-size_legal
returns-then-size_legal c =
    sym (shape_sized c.args.w.now c.if-w-lt2.false c.size_legal.ensures c.if-size_legal.true)

pub returns : goal.returns
returns c =
    sym (shape_unsized c.args.w.now c.if-w-lt2.false c.size_legal.ensures c.if-size_legal.false)
