-- `frame_text::closed` meets its contract: one too long already is malformed, another is answered.
use mathlib.Core.Path.{◌≡◌, sym}
use native.Mathlib.Omega.{arith}
use lib.ListN.{length}
use lib.Seq.{length-take-le}
use Rattle.frame_text.proofs.Lines.{short, long}
use borrow.Author.Rules.{rules}
use Rattle.frame_text.proofs.closed.Goals as goal

pub returns-then-count-gt-LONGEST_LINE : goal.returns-then-count-gt-LONGEST_LINE
returns-then-count-gt-LONGEST_LINE c = rw (long c.args.line c.if-count-gt-LONGEST_LINE.true) c.malformed.ensures

pub slice_bounds-bytes-end : goal.slice_bounds-bytes-end
slice_bounds-bytes-end c = let room : length c.args.line.bytes ≡ 256 = search rules in omega arith

pub slice_bounds-answer-end : goal.slice_bounds-answer-end
slice_bounds-answer-end c =
    let room : length c.args.line.bytes ≡ 256 = search rules in
    sym (length-take-le _ _ (omega arith))

pub answer-requires : goal.answer-requires
answer-requires c =
    let room : length c.args.line.bytes ≡ 256 = search rules in
    omega (arith, length-take-le c.args.line.count c.args.line.bytes (omega arith))

pub returns : goal.returns
returns c = rw (short c.args.line c.if-count-gt-LONGEST_LINE.false) c.answer.ensures
