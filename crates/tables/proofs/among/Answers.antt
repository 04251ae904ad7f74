-- `tables::among` meets its contract: at every turn the rows from place `i` on decide.
use Prim.Native.Nat.{ℕ, ◌<◌}
use mathlib.Core.Path.{sym, ap, ◌∙◌}
use mathlib.Core.List.{List}
use native.Mathlib.Omega.{arith}
use lib.ListN.{length}
use Rattle.laws.specs.Bytes.{same_bytes}
use Rattle.tables.specs.Rows.{rows}
use Rattle.tables.proofs.Rows.{length_rows, among_next, among_stop, among_end}
use Rattle.tables.proofs.among.Goals as goal

pub returns-then-same : goal.returns-then-same
returns-then-same c =
    let known = c.args in
    let turn = c.loop-i in
    let l : List (List ℕ) = rows known.width known.count known.table.now in
    let there : turn.i < length l = omega (arith, length_rows known.width known.count known.table.now) in
    sym
    (turn.invariant
    ∙ among_stop l turn.i there known.bytes.now
    (ap (same_bytes known.bytes.now) (sym c.row.ensures) ∙ sym c.same.ensures ∙ c.if-same.true))

pub loop-i-preserved : goal.loop-i-preserved
loop-i-preserved c =
    let known = c.args in
    let turn = c.loop-i in
    let l : List (List ℕ) = rows known.width known.count known.table.now in
    let there : turn.i < length l = omega (arith, length_rows known.width known.count known.table.now) in
    turn.invariant
    ∙ among_next l turn.i there known.bytes.now
    (ap (same_bytes known.bytes.now) (sym c.row.ensures) ∙ sym c.same.ensures ∙ c.if-same.false)

pub returns : goal.returns
returns c =
    let known = c.args in
    let turn = c.loop-i in
    sym (turn.invariant ∙ among_end known.bytes.now _ turn.i (omega (arith, length_rows known.width known.count known.table.now)))
