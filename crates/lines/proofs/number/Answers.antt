-- `lines::number` meets its contract: the number behind the key, or a line that breaks the order.
use mathlib.Core.Path.{refl}
use mathlib.Core.List.{[]}
use native.Mathlib.Omega.{arith}
use Rattle.reading.specs.Reading.{unsigned}
use Rattle.lines.specs.Lines.{given}
use Rattle.lines.specs.Promises.{line_of}
use Rattle.lines.proofs.KeyedLines.{unkeyed, no_value, with_value}
use Rattle.lines.proofs.number.Goals as goal

pub returns-in_err-value : goal.returns-in_err-value
returns-in_err-value c =
    rw c.from_residual.ensures
    (record { says = λ bytes. record { line_is = λ p n k. unkeyed c.args.key.now c.args.line.now (λ v. given (unsigned v) (λ m. line_of c.args.means p n k m [])) c.in_err-value.ensures.cases; within_room = omega arith }; no_bytes = refl })

pub returns-in_err-unsigned : goal.returns-in_err-unsigned
returns-in_err-unsigned c =
    let found = c.in_ok-value.ensures.cases in
    rw c.from_residual-in_err-unsigned.ensures
    (record { says = λ bytes. record { line_is = λ p n k. no_value c.args.key.now c.args.line.now found.0 found.1 unsigned (λ m. line_of c.args.means p n k m []) c.in_err-unsigned.ensures; within_room = omega arith }; no_bytes = refl })

pub returns : goal.returns
returns c =
    let found = c.in_ok-value.ensures.cases in
    record { says = λ bytes. record { line_is = λ p n k. with_value c.args.key.now c.args.line.now found.0 found.1 unsigned (λ m. line_of c.args.means p n k m []) c.in_ok-unsigned.field-0 c.in_ok-unsigned.ensures; within_room = omega arith }; no_bytes = refl }
