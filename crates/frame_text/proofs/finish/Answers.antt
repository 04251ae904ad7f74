-- `frame_text::finish` meets its contract: no line, or one that is closed.
use mathlib.Core.Path.{◌≡◌}
use lib.ListN.{length}
use Rattle.frame_text.specs.Taking.{ends}
use Rattle.frame_text.proofs.Lines.{ends_closed}
use borrow.Author.Rules.{rules}
use Rattle.frame_text.proofs.finish.Goals as goal

pub returns-then-line-eq0 : goal.returns-then-line-eq0
unfolding ends
returns-then-line-eq0 c = rw c.if-line-eq0.true c.nothing.ensures

pub returns : goal.returns
returns c =
    let room : length c.args.line.bytes ≡ 256 = search rules in
    rw (ends_closed c.args.line room c.if-line-eq0.false) c.closed.ensures
