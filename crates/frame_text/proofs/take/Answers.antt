-- `frame_text::take` meets its contract, by newline or not.
use borrow.Author.Tests.{eq-eqb, ne_eqb}
use Rattle.notation.specs.Text.{newline}
use Rattle.frame_text.specs.Taking.{after, says}
use Rattle.frame_text.proofs.take.Goals as goal

pub returns-then-byte-eq-NEWLINE : goal.returns-then-byte-eq-NEWLINE
unfolding after says
returns-then-byte-eq-NEWLINE c =
    let newline-is = eq-eqb c.args.byte newline c.if-byte-eq-NEWLINE.true in
    record { line_is = rw newline-is c.begin.ensures; text_is = rw newline-is c.closed.ensures }

pub returns : goal.returns
unfolding after says
returns c =
    let other = ne_eqb c.args.byte newline c.if-byte-eq-NEWLINE.false in
    record { line_is = rw other c.longer.ensures; text_is = rw other c.nothing.ensures }
