-- `substitution::lookup::look_up` meets its contract: the loop puts the entries in front, one a turn.
use mathlib.Core.Path.{◌≡◌, ap, sym, ◌∙◌}
use lib.ListN.{get_or, length}
use native.Mathlib.Omega.{arith}
use borrow.Author.Rules.{rules}
use Rattle.laws.proofs.Tabulate.{filled_none, filled_turn, filled_all, filled_rest}
use Rattle.substitution.proofs.Maps.{map_tabulate}
use Rattle.substitution.proofs.lookup.look_up.Goals as goal

pub loop-b-init : goal.loop-b-init
loop-b-init c = filled_none _ _

pub loop-b-preserved : goal.loop-b-preserved
loop-b-preserved c =
    let at = c.loop-b in
    let a = c.args in
    let here : get_or at.b-items at.b-index 0 ≡ get_or a.s at.b-index 0
    = ap (λ l. get_or l at.b-index 0) at.invariant ∙ filled_rest _ a.s at.b-index at.b-index 0 (omega arith) in
    filled_turn _ a.s at.b-items at.b-index _ 0 (omega arith) at.invariant (ap (λ b. get_or a.table.now b 0) here)

pub returns : goal.returns
returns c =
    let at = c.loop-b in
    let a = c.args in
    let sixteen : length a.s ≡ 16 = search rules in
    let e : at.b-index ≡ 16 = omega arith in
    rw e at (at.invariant ∙ filled_all _ _ at.b-index (e ∙ sym sixteen)) ∙ sym (map_tabulate _ a.s 16 sixteen)
