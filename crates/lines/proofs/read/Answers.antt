-- `lines::read` meets its contract: an event's name, or a line inside.
use Rattle.lines.specs.Lines.{taken}
use Rattle.lines.proofs.ToldLines.{says_none, says_at}
use Rattle.lines.proofs.read.Goals as goal

pub returns-in_err-event-in-Event : goal.returns-in_err-event-in-Event
returns-in_err-event-in-Event c = says_at c.args.line.now c.in-Event.is (says_none c.in_err-event-in-Event.ensures c.from_residual.ensures)

pub returns-in-Inside : goal.returns-in-Inside
unfolding taken
returns-in-Inside c = says_at c.args.line.now c.in-Inside.is c.inside.ensures
