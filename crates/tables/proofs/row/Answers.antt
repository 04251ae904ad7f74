-- `tables::row` meets its contract: the part of one row's width at its place.
use mathlib.Core.Path.{◌≡◌, sym}
use Prim.Native.Nat.{◌+◌, ◌*◌, ◌-◌}
use native.Mathlib.Omega.{arith}
use Rattle.tables.proofs.Rows.{row_ends, row_at}
use Rattle.tables.proofs.row.Goals as goal

pub overflow_mul-at : goal.overflow_mul-at
overflow_mul-at c = omega (arith, row_ends c.args.width c.args.count c.args.place c.requires.0)

pub overflow_add-result : goal.overflow_add-result
overflow_add-result c = omega (arith, row_ends c.args.width c.args.count c.args.place c.requires.0)

pub slice_bounds-result-end : goal.slice_bounds-result-end
slice_bounds-result-end c = omega (arith, row_ends c.args.width c.args.count c.args.place c.requires.0)

pub returns : goal.returns
returns c =
    let a = c.args in
    let e : a.place * a.width + a.width - a.place * a.width ≡ a.width = omega arith in
    rw e (sym (row_at a.width a.count a.table.now a.place c.requires.0))
