-- `session::closing::close` meets its contract: a line within the limits is judged by what is expected.
use lib.ListN.{take}
use mathlib.Core.Path.{refl, ◌∙◌}
use Rattle.session.specs.Feeding.{closed}
use Rattle.session.proofs.ClosedLines.{judged_is, judged_late, closes_as}
use Rattle.session.proofs.closing.close.Goals as goal

pub returns-then-run-gt-MOST_LINES : goal.returns-then-run-gt-MOST_LINES
unfolding closed
returns-then-run-gt-MOST_LINES c =
    let known = c.args in
    closes_as known.run.number known.run.unit (judged_late known.run known.line.now c.if-run-gt-MOST_LINES.true) c.breaks.ensures

pub returns-in_default : goal.returns-in_default
unfolding closed
returns-in_default c =
    let run = c.args.run in
    let said = c.in_default.ensures.line_is run.power run.components (take run.filled run.kept) in
    closes_as run.number run.unit (said ∙ judged_is run c.args.line.now refl c.requires.short c.if-run-gt-MOST_LINES.false) c.breaks-in_default.ensures

pub returns : goal.returns
returns c =
    let run = c.args.run in
    let said = c.in-Some.ensures.line_is run.power run.components (take run.filled run.kept) in
    closes_as run.number run.unit (said ∙ judged_is run c.args.line.now refl c.requires.short c.if-run-gt-MOST_LINES.false) c.act.ensures
