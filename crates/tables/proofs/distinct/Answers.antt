-- `tables::distinct` meets its contract: going down, the rows from place `i` on are distinct.
use Prim.Native.Nat.{ℕ, ◌+◌, ◌-◌, ◌<◌}
use mathlib.Core.Path.{◌≡◌, sym, ap, ◌∙◌}
use mathlib.Core.List.{List}
use native.Mathlib.Omega.{arith}
use lib.ListN.{length, drop}
use Rattle.tables.specs.Rows.{rows, among}
use Rattle.tables.proofs.Rows.{length_rows, distinct_next, distinct_stop, distinct_end}
use Rattle.tables.proofs.distinct.Goals as goal

pub loop-i-init : goal.loop-i-init
loop-i-init c =
    let a = c.args in
    distinct_end _ a.count (omega (arith, length_rows a.width a.count a.table.now))

pub returns-then-among : goal.returns-then-among
returns-then-among c =
    let known = c.args in
    let turn = c.loop-i in
    let l : List (List ℕ) = rows known.width known.count known.table.now in
    let there : turn.i - 1 < length l = omega (arith, length_rows known.width known.count known.table.now) in
    sym
    (distinct_stop l (turn.i - 1) there
    (ap (λ (k : List ℕ). among k (drop (turn.i - 1 + 1) l)) (sym c.row.ensures) ∙ sym c.among.ensures ∙ c.if-among.true))

pub loop-i-preserved : goal.loop-i-preserved
loop-i-preserved c =
    let known = c.args in
    let turn = c.loop-i in
    let l : List (List ℕ) = rows known.width known.count known.table.now in
    let there : turn.i - 1 < length l = omega (arith, length_rows known.width known.count known.table.now) in
    let next : turn.i - 1 + 1 ≡ turn.i = omega arith in
    distinct_next l (turn.i - 1) there
    (ap (λ (k : List ℕ). among k (drop (turn.i - 1 + 1) l)) (sym c.row.ensures) ∙ sym c.among.ensures ∙ c.if-among.false)
    (rw next turn.invariant)
