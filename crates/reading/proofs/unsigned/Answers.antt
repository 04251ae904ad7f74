-- `reading::unsigned` meets its contract: the tests are on the numeral's shape, and the digits decide.
use mathlib.Core.Path.{◌≡◌, ◌∙◌}
use mathlib.Core.Bool.{true}
use native.Mathlib.Omega.{arith}
use borrow.Author.Rules.{rules}
use lib.ListN.{length, get_or}
use borrow.Author.Tests.{eq-eqb, ne_eqb, lt-ltb, le-ltb}
use Rattle.reading.proofs.Numerals.{no_shape, in_shape, shaped}
use Rattle.reading.proofs.unsigned.Goals as goal
use Rattle.reading.proofs.unsigned.Goals.{else-text-gt1-via-then-text-gt1+else-text-eq48, else-text-gt1-via-else-text-gt1}

pub returns-then-is_empty : goal.returns-then-is_empty
returns-then-is_empty c =
    let text = c.args.text.now in
    let none : length text ≡ 0 = search rules in
    no_shape text (simp (ne_eqb (length text) 1 (λ e. omega arith), le-ltb 1 (length text) (omega arith)))

pub returns-then-text-eq48 : goal.returns-then-text-eq48
returns-then-text-eq48 c =
    let text = c.args.text.now in
    no_shape text (simp (ne_eqb (length text) 1 (λ e. omega arith), lt-ltb 1 (length text) (omega arith), eq-eqb (get_or text 0 0) 48 c.if-text-eq48.true))

pub returns : goal.returns
returns c =
    let text = c.args.text.now in
    let shape : shaped text ≡ true =
    elim c.else-text-gt1.branch [
      | else-text-gt1-via-then-text-gt1+else-text-eq48 w ↦
          simp (ne_eqb (length text) 1 (λ e. omega (arith, w.if-text-gt1.true)), lt-ltb 1 (length text) w.if-text-gt1.true, ne_eqb (get_or text 0 0) 48 w.if-text-eq48.false)
      | else-text-gt1-via-else-text-gt1 w ↦ simp (eq-eqb (length text) 1 (search rules))
    ] in
    c.digits.ensures ∙ in_shape text shape
