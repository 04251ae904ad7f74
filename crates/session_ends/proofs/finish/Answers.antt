-- `session_ends::finish` meets its contract: nothing where an event could begin, else the line that is missing or not closed.
use borrow.Author.Rules.{rules}
use mathlib.Core.Path.{◌≡◌}
use lib.ListN.{length}
use Rattle.session.specs.Replay.{longest_line}
use Rattle.session_ends.proofs.Ending.{no_room, over, event_left, inside_left}
use Rattle.session_ends.proofs.finish.Goals as goal

pub returns-then-out-lt-FINISH_ROOM : goal.returns-then-out-lt-FINISH_ROOM
returns-then-out-lt-FINISH_ROOM c = no_room c.args.s c.args.out.now c.if-out-lt-FINISH_ROOM.true

pub returns-then-run : goal.returns-then-run
returns-then-run c = over c.args.s c.args.out.now c.if-out-lt-FINISH_ROOM.false c.if-run.true

pub returns-in-Event : goal.returns-in-Event
returns-in-Event c =
    let known = c.args in
    let long : length known.s.line ≡ longest_line = search rules in
    event_left known.s known.out.now c.if-out-lt-FINISH_ROOM.false c.if-run.false c.in-Event.is long c.unclosed.ensures

pub returns-in-Inside : goal.returns-in-Inside
returns-in-Inside c =
    let known = c.args in
    inside_left known.s known.out.now c.if-out-lt-FINISH_ROOM.false c.in-Inside.field-0 c.if-run.false c.in-Inside.is c.malformed.ensures
