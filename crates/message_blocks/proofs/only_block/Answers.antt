-- `message_blocks::only_block` gives the block of a short message: its parts put one after another, the mark, and the length's two words.
use Prim.Native.Nat.{◌+◌, ◌<◌}
use native.Mathlib.Omega.{arith}
use lib.ListN.{length}
use Rattle.padding.proofs.Padded.{length_parts}
use Rattle.message_blocks.proofs.Short.{full, only_laid}
use Rattle.message_blocks.proofs.only_block.Goals as goal

pub words_at-requires : goal.words_at-requires
words_at-requires c =
    let m = c.args.message.now in
    let short : length m.first.now + length m.head.now + length m.tail.now + length m.last.now < 56
    = rw length_parts at c.requires.0 in (
      full m.first.now m.head.now m.tail.now m.last.now short _ _ _ _ c.put.ensures c.put-2.ensures c.put-3.ensures c.put-4.ensures _ _,
      c.requires.1,
    )

pub returns : goal.returns
returns c =
    let m = c.args.message.now in
    let short : length m.first.now + length m.head.now + length m.tail.now + length m.last.now < 56
    = rw length_parts at c.requires.0 in
    only_laid m.first.now m.head.now m.tail.now m.last.now short _ _ _ _
    c.put.ensures c.put-2.ensures c.put-3.ensures c.put-4.ensures
    m.before _ m.whole (omega arith) c.words_at.ensures
