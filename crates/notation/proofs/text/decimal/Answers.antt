-- `notation::text::decimal` meets its contract: what is left of the number and the digits behind `first` are the whole.
use Prim.Native.Nat.{ℕ, ◌%◌, ◌+◌, ◌<◌, ◌-◌}
use mathlib.Core.Logic.{◌⊎◌, inl, inr}
use mathlib.Core.List.{List, append-nil}
use lib.ListN.{set, length, take, drop, length-set, length-drop}
use mathlib.Core.Path.{◌≡◌, sym, ◌∙◌}
use native.Mathlib.Omega.{arith}
use lib.Seq.{take_all}
use borrow.Author.Rules.{rules}
use Rattle.notation.specs.Text.{decimal}
use Rattle.notation.proofs.Decimal.{digits_from, digits_more, digits_last}
use Rattle.notation.proofs.text.decimal.Goals as goal
use Rattle.notation.proofs.text.decimal.Goals.{then-loop-rest-test+else-first-gt0, else-loop-rest-test}

pub loop-rest-init : goal.loop-rest-init
unfolding decimal digits_from
loop-rest-init c = (omega arith, (search rules, sym (append-nil _)))

pub overflow_cast-digits : goal.overflow_cast-digits
overflow_cast-digits c = omega arith

pub overflow_add-digits : goal.overflow_add-digits
overflow_add-digits c = omega arith

pub bounds-digits-first : goal.bounds-digits-first
bounds-digits-first c = omega arith

pub overflow_sub-first : goal.overflow_sub-first
overflow_sub-first c = omega (arith, c.if-first-gt0.true)

pub loop-rest-smaller : goal.loop-rest-smaller
loop-rest-smaller c = omega (arith, c.if-first-gt0.true)

pub loop-rest-preserved : goal.loop-rest-preserved
loop-rest-preserved c =
    let turn = c.loop-rest in
    let more : 0 < turn.first = c.if-first-gt0.true in
    (omega arith, (search rules, turn.invariant.1.1 ∙ digits_more turn.first turn.rest turn.digits more (omega arith) (omega arith)))

pub overflow_cast-digits-2 : goal.overflow_cast-digits-2
overflow_cast-digits-2 c = omega arith

pub overflow_add-digits-2 : goal.overflow_add-digits-2
overflow_add-digits-2 c = omega arith

pub bounds-digits-first-2 : goal.bounds-digits-first-2
bounds-digits-first-2 c = omega arith

pub slice_bounds-put-count : goal.slice_bounds-put-count
slice_bounds-put-count c = omega arith

pub slice_bounds-put-end : goal.slice_bounds-put-end
slice_bounds-put-end c = rw length-set (search rules)

pub put-requires : goal.put-requires
put-requires c = omega arith

pub returns : goal.returns
returns c =
    let start = c.args in
    let turn = c.loop-rest in
    let end : (turn.rest < 10) ⊎ (turn.first ≡ 0) =
    elim c.loop-rest-test.branch [
      | then-loop-rest-test+else-first-gt0 w ↦ inr (omega arith)
      | else-loop-rest-test w ↦ inl (omega arith)
    ] in
    let written : List ℕ = set turn.digits turn.first (48 + turn.rest % 10) in
    let size : length (drop turn.first written) ≡ 10 - turn.first = length-drop turn.first written ∙ rw length-set (omega arith) in
    let text : take (10 - turn.first) (drop turn.first written) ≡ decimal start.n =
    take_all (10 - turn.first) (drop turn.first written) (omega arith)
    ∙ sym (turn.invariant.1.1 ∙ digits_last turn.first turn.rest turn.digits (omega arith) end) in
    rw text at c.put.ensures
