-- `frame_text::longer` meets its contract: a byte more, or too long.
use mathlib.Core.Path.{◌≡◌}
use lib.ListN.{length}
use Rattle.frame_text.proofs.Lines.{longer_by, too_long}
use borrow.Author.Rules.{rules}
use Rattle.frame_text.proofs.longer.Goals as goal

pub returns-then-line-lt-LONGEST_LINE : goal.returns-then-line-lt-LONGEST_LINE
returns-then-line-lt-LONGEST_LINE c =
    let room : length c.args.line.bytes ≡ 256 = search rules in
    longer_by c.args.line room c.args.byte c.if-line-lt-LONGEST_LINE.true

pub returns-else-line-lt-LONGEST_LINE : goal.returns-else-line-lt-LONGEST_LINE
returns-else-line-lt-LONGEST_LINE c =
    let room : length c.args.line.bytes ≡ 256 = search rules in
    too_long c.args.line room c.args.byte c.if-line-lt-LONGEST_LINE.false
