-- `pieces::take` meets its contract: after `taken` bytes the session is the state of the feeding.
use Rattle.pieces.proofs.Pieces.{passed_none, passed_next_lem, passed_ended, fed_so_far, over, no_room, takes_more}
use lib.ListN.{length}
use mathlib.Core.Path.{◌≡◌, refl}
use native.Mathlib.Omega.{arith}
use borrow.Author.Rules.{rules}
use Rattle.pieces.proofs.take.Goals as goal
use Rattle.pieces.proofs.take.Goals.{else-b-ne-NEWLINE-via-then-b-ne-NEWLINE+else-session-lt-LONGEST_LINE, else-b-ne-NEWLINE-via-else-b-ne-NEWLINE}

pub loop-taken-init : goal.loop-taken-init
loop-taken-init c =
    let long : length c.args.start.line ≡ 256 = search rules in
    passed_none c.args.start c.args.piece.now c.args.out.now c.requires long

pub shape_of-out-then-session : goal.shape_of-out-then-session
shape_of-out-then-session c = c.loop-taken.invariant.kept

pub returns-then-session : goal.returns-then-session
returns-then-session c =
    let all = passed_ended c.loop-taken.invariant c.if-session.true in
    fed_so_far all c.requires (over all refl)

pub overflow_sub-out : goal.overflow_sub-out
overflow_sub-out c = omega (arith, c.loop-taken.invariant.within, c.loop-taken.invariant.kept)

pub bounds-piece-taken : goal.bounds-piece-taken
bounds-piece-taken c = c.loop-taken-test.true

pub overflow_add-taken : goal.overflow_add-taken
overflow_add-taken c = omega (arith, c.loop-taken-test.true)

pub loop-taken-smaller-then-session-lt-LONGEST_LINE : goal.loop-taken-smaller-then-session-lt-LONGEST_LINE
loop-taken-smaller-then-session-lt-LONGEST_LINE c = omega (arith, c.loop-taken-test.true)

pub loop-taken-preserved-then-session-lt-LONGEST_LINE : goal.loop-taken-preserved-then-session-lt-LONGEST_LINE
loop-taken-preserved-then-session-lt-LONGEST_LINE c =
    let turn = c.loop-taken in
    let inv = turn.invariant in
    let going = c.if-session.false in
    let grown =
    takes_more turn.session _ going inv.line_long inv.bounded.within_line inv.bounded.bounded_run c.if-b-ne-NEWLINE.true
    c.if-session-lt-LONGEST_LINE.true turn.written turn.out in
    passed_next_lem inv c.loop-taken-test.true going
    (omega (arith, inv.within, inv.kept, c.if-out-written-lt-LINE_ROOM.false)) grown inv.kept

pub end_line-after-requires : goal.end_line-after-requires
end_line-after-requires c =
    let turn = c.loop-taken in
    let inv = turn.invariant in (
      record {
        going = c.if-session.false;
        bounded = inv.bounded;
        room = omega (arith, inv.within, inv.kept, c.if-out-written-lt-LINE_ROOM.false);
      },
      λ other.
          elim c.else-b-ne-NEWLINE.branch [
            | else-b-ne-NEWLINE-via-then-b-ne-NEWLINE+else-session-lt-LONGEST_LINE w ↦ w.if-session-lt-LONGEST_LINE.false
            | else-b-ne-NEWLINE-via-else-b-ne-NEWLINE w ↦ absurd (other w.if-b-ne-NEWLINE.false)
          ],
    )

pub overflow_add-taken-else-b-ne-NEWLINE : goal.overflow_add-taken-else-b-ne-NEWLINE
overflow_add-taken-else-b-ne-NEWLINE c = omega (arith, c.loop-taken-test.true)

pub loop-taken-smaller : goal.loop-taken-smaller
loop-taken-smaller c = omega (arith, c.loop-taken-test.true)

pub loop-taken-preserved : goal.loop-taken-preserved
loop-taken-preserved c =
    let turn = c.loop-taken in
    let inv = turn.invariant in
    passed_next_lem inv c.loop-taken-test.true
    c.if-session.false
    (omega (arith, inv.within, inv.kept, c.if-out-written-lt-LINE_ROOM.false))
    c.end_line-after.ensures (omega (arith, inv.kept))

pub shape_of-out-after-loop-taken : goal.shape_of-out-after-loop-taken
shape_of-out-after-loop-taken c = c.loop-taken.invariant.kept

pub returns-after-loop-taken : goal.returns-after-loop-taken
returns-after-loop-taken c =
    let inv = c.loop-taken.invariant in
    fed_so_far inv c.requires (over inv (omega (arith, c.loop-taken-test.false, inv.in_piece)))

pub shape_of-out-then-out-written-lt-LINE_ROOM : goal.shape_of-out-then-out-written-lt-LINE_ROOM
shape_of-out-then-out-written-lt-LINE_ROOM c = c.loop-taken.invariant.kept

pub returns-then-out-written-lt-LINE_ROOM : goal.returns-then-out-written-lt-LINE_ROOM
returns-then-out-written-lt-LINE_ROOM c =
    let inv = c.loop-taken.invariant in
    fed_so_far inv c.requires
    (no_room inv c.loop-taken-test.true c.if-session.false (omega (arith, c.if-out-written-lt-LINE_ROOM.true, inv.kept)))
