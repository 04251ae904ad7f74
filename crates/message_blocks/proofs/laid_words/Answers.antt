-- `message_blocks::laid_words` gives the words of a block that is laid out, at once or part by part.
use mathlib.Core.Path.{ap, ◌∙◌}
use native.Mathlib.Omega.{arith}
use Rattle.padding.specs.Padding.{words_at}
use Rattle.padding.specs.Blocks.{followed}
use Rattle.padding.specs.Parts.{bytes_of}
use Rattle.padding.proofs.Laying.{block_words_of}
use Rattle.message_blocks.proofs.Short.{only_these}
use Rattle.message_blocks.proofs.laid_words.Goals as goal

pub returns-then-len-lt56 : goal.returns-then-len-lt56
returns-then-len-lt56 c =
    let m = c.args.message.now in
    c.only_block.ensures
    ∙ ap (words_at (followed m.before (bytes_of m))) (only_these m.before (bytes_of m) c.args.at m.whole (omega arith) c.requires.in_bounds.1)

pub returns : goal.returns
returns c =
    let m = c.args.message.now in
    c.words_at.ensures ∙ rw c.laid_out-bytes.ensures (block_words_of (followed m.before (bytes_of m)) c.args.at c.requires.in_bounds.1)
