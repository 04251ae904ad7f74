-- `pieces::end_line` meets its contract: a newline closes the line, another byte finds it too long.
use Rattle.pieces.proofs.Pieces.{byte_closes, byte_breaks, takes_line}
use borrow.Author.Rules.{rules}
use lib.ListN.{length}
use lib.Seq.{length-take-le}
use mathlib.Core.Path.{◌≡◌, sym}
use native.Mathlib.Omega.{arith}
use Rattle.pieces.proofs.end_line.Goals as goal

pub slice_bounds-close-end : goal.slice_bounds-close-end
slice_bounds-close-end c =
    let s = c.args.s in
    let long : length c.args.s.line ≡ 256 = search rules in
    sym (length-take-le s.count s.line (omega (arith, c.requires.0.bounded.within_line)))

pub close-closed-requires : goal.close-closed-requires
close-closed-requires c =
    let s = c.args.s in
    let ready = c.requires.0 in
    let long : length c.args.s.line ≡ 256 = search rules in
    let size = length-take-le s.count s.line (omega (arith, ready.bounded.within_line)) in
    record { going = ready.going; bounded = ready.bounded.bounded_run; short = omega (arith, size, ready.bounded.within_line); room = omega (arith, ready.room) }

pub returns-then-b-eq-NEWLINE : goal.returns-then-b-eq-NEWLINE
returns-then-b-eq-NEWLINE c =
    let ready = c.requires.0 in
    let long : length c.args.s.line ≡ 256 = search rules in
    rw c.opened.ensures
    (takes_line (byte_closes c.args.s c.args.b ready.going long ready.bounded.within_line c.if-b-eq-NEWLINE.true)
    c.close-closed.ensures)

pub returns : goal.returns
returns c =
    let ready = c.requires.0 in
    let other = c.if-b-eq-NEWLINE.false in
    let long : length c.args.s.line ≡ 256 = search rules in
    rw c.opened-2.ensures
    (takes_line (byte_breaks c.args.s c.args.b ready.going long ready.bounded.within_line other (c.requires.1 other))
    c.breaks.ensures)
