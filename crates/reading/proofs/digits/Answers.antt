-- `reading::digits` meets its contract: the digits passed give the value, and the rest of the text decides.
use Prim.Native.Nat.{◌+◌, ◌*◌, ◌-◌, ◌≤◌, ◌^◌}
use mathlib.Core.Path.{◌≡◌, sym, ◌∙◌}
use native.Mathlib.Omega.{arith}
use borrow.Author.Rules.{rules}
use lib.ListN.{drop, get_or}
use Rattle.std.specs.Prelude.{None}
use Rattle.reading.specs.Reading.{value_from}
use Rattle.reading.proofs.Numerals.{digits_next, digits_wrong, digits_end, value_next, value_end, value_grows, no_digits, too_large, in_digits_lem}
use Rattle.reading.proofs.digits.Goals as goal

pub returns-then-not-is_ascii_digit : goal.returns-then-not-is_ascii_digit
returns-then-not-is_ascii_digit c =
    let text = c.args.text.now in
    let turn = c.loop-c in
    no_digits text (turn.invariant.1 ∙ digits_wrong text turn.c-index (omega arith) (sym c.is_ascii_digit.ensures.value ∙ c.if-not-is_ascii_digit.true))

pub returns-in_err-checked_mul : goal.returns-in_err-checked_mul
returns-in_err-checked_mul c =
    let text = c.args.text.now in
    let turn = c.loop-c in
    let value = turn.value * 10 + (get_or text turn.c-index 0 - 48) in
    let large : 2 ^ 32 ≤ value = search rules in
    let grown : value ≤ value_from value (drop (turn.c-index + 1) text) = value_grows value (drop (turn.c-index + 1) text) in
    let none : c.from_residual.result ≡ None = search rules in
    none ∙ too_large text (rw (turn.invariant.2, value_next text turn.c-index (omega arith) turn.value) (omega arith))

pub returns-in_err-value : goal.returns-in_err-value
returns-in_err-value c =
    let text = c.args.text.now in
    let turn = c.loop-c in
    let value = turn.value * 10 + (get_or text turn.c-index 0 - 48) in
    let large : 2 ^ 32 ≤ value = search rules in
    let grown : value ≤ value_from value (drop (turn.c-index + 1) text) = value_grows value (drop (turn.c-index + 1) text) in
    let none : c.from_residual-in_err-value.result ≡ None = search rules in
    none ∙ too_large text (rw (turn.invariant.2, value_next text turn.c-index (omega arith) turn.value) (omega arith))

pub loop-c-preserved : goal.loop-c-preserved
loop-c-preserved c =
    let text = c.args.text.now in
    let turn = c.loop-c in
    let next : c.in_ok-value.value ≡ turn.value * 10 + (get_or text turn.c-index 0 - 48) = search rules in (
      search rules,
      turn.invariant.1 ∙ digits_next text turn.c-index (omega arith) (sym c.is_ascii_digit.ensures.value ∙ c.if-not-is_ascii_digit.false),
      turn.invariant.2 ∙ rw next (value_next text turn.c-index (omega arith) turn.value),
    )

pub returns : goal.returns
returns c =
    let text = c.args.text.now in
    let turn = c.loop-c in
    in_digits_lem text turn.value (turn.invariant.1 ∙ digits_end text turn.c-index (omega arith)) (turn.invariant.2 ∙ value_end text turn.c-index turn.value (omega arith)) turn.invariant.0
