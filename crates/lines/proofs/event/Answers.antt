-- `lines::event` meets its contract: the name behind the key decides.
use mathlib.Core.Path.{◌∙◌}
use Rattle.lines.specs.Lines.{taken, named}
use Rattle.notation.specs.Text.{ascii}
use Rattle.lines.proofs.KeyedLines.{keyed, unkeyed}
use Rattle.lines.proofs.event.Goals as goal

pub returns-in_err-strip_prefix : goal.returns-in_err-strip_prefix
unfolding taken
returns-in_err-strip_prefix c =
    rw c.from_residual.ensures
    (record { line_is = λ p n k m b. unkeyed (ascii "event=") c.args.line.now named c.in_err-strip_prefix.ensures.cases })

pub returns : goal.returns
unfolding taken
returns c =
    let found = c.in_ok-strip_prefix.ensures.cases in
    record { line_is = λ p n k m b. c.named.ensures.line_is p n k m b ∙ keyed (ascii "event=") c.args.line.now found.0 found.1 named }
