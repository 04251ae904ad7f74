-- `lines::on` meets its contract: the value behind the key, or a line that breaks the order.
use Rattle.tag.specs.Calls.{pairing}
use Rattle.events.specs.Event.{asks}
use Rattle.reading.specs.Reading.{flag}
use Rattle.lines.specs.Lines.{held, given, brings}
use Rattle.notation.specs.Text.{ascii}
use Rattle.lines.proofs.KeyedLines.{unkeyed, no_value, with_value}
use Rattle.lines.proofs.on.Goals as goal

pub returns-in_err-value : goal.returns-in_err-value
unfolding held
returns-in_err-value c =
    rw c.from_residual.ensures
    (record { line_is = λ p n k m b. unkeyed (ascii "on=") c.args.line.now (λ v. given (flag v) (λ x. brings (asks (pairing x)))) c.in_err-value.ensures.cases })

pub returns-in_err-flag : goal.returns-in_err-flag
unfolding held
returns-in_err-flag c =
    let found = c.in_ok-value.ensures.cases in
    rw c.from_residual-in_err-flag.ensures
    (record { line_is = λ p n k m b. no_value (ascii "on=") c.args.line.now found.0 found.1 flag (λ x. brings (asks (pairing x))) c.in_err-flag.ensures })

pub returns : goal.returns
unfolding held
returns c =
    let found = c.in_ok-value.ensures.cases in
    record { line_is = λ p n k m b. with_value (ascii "on=") c.args.line.now found.0 found.1 flag (λ x. brings (asks (pairing x))) c.in_ok-flag.field-0 c.in_ok-flag.ensures }
