-- `lines::power` meets its contract: the value behind the key, or a line that breaks the order.
use borrow.Author.Rules.{rules}
use mathlib.Core.Path.{◌≡◌, ap, ◌∙◌}
use mir.Syntax.{w32}
use mir.Val.{to_z, of_z}
use Rattle.reading.specs.Reading.{signed}
use Rattle.lines.specs.Lines.{held, given, follows, components}
use Rattle.notation.specs.Text.{ascii}
use Rattle.lines.proofs.KeyedLines.{unkeyed, no_value, with_value}
use Rattle.lines.proofs.power.Goals as goal

pub returns-in_err-value : goal.returns-in_err-value
unfolding held
returns-in_err-value c =
    rw c.from_residual.ensures
    (record { line_is = λ p n k m b. unkeyed (ascii "power=") c.args.line.now (λ v. given (signed v) (λ x. follows (components x))) c.in_err-value.ensures.cases })

pub returns-in_err-signed : goal.returns-in_err-signed
unfolding held
returns-in_err-signed c =
    let found = c.in_ok-value.ensures.cases in
    rw c.from_residual-in_err-signed.ensures
    (record { line_is = λ p n k m b. no_value (ascii "power=") c.args.line.now found.0 found.1 signed (λ x. follows (components x)) c.in_err-signed.ensures })

pub returns : goal.returns
unfolding held
returns c =
    let found = c.in_ok-value.ensures.cases in
    let kept : to_z w32 (of_z w32 c.in_ok-signed.field-0) ≡ c.in_ok-signed.field-0 = search rules in
    record {
      line_is =
          λ p n k m b.
          ap (λ (z : _). follows (components z)) kept
          ∙ with_value (ascii "power=") c.args.line.now found.0 found.1 signed (λ x. follows (components x)) c.in_ok-signed.field-0 c.in_ok-signed.ensures;
    }
