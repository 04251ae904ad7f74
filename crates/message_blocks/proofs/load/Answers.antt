-- `message_blocks::load` gives a block, from the part that it lies in or laid out.
use mathlib.Core.Path.{◌∙◌}
use Prim.Native.Nat.{ℕ, ◌+◌, ◌*◌, ◌^◌, ◌<◌, ◌≤◌}
use lib.ListN.{length}
use native.Mathlib.Omega.{arith}
use Rattle.padding.specs.Blocks.{followed}
use Rattle.padding.specs.Parts.{bytes_of}
use Rattle.padding.specs.declared.parts.Message.{Message}
use Rattle.padding.proofs.Padded.{followed_fits, block_words, block_first, block_tail}
use Rattle.message_blocks.proofs.load.Goals as goal

-- the block ends within what a usize holds
fits : (m : Message) (i : ℕ) → 64 * i + 64 ≤ length (followed m.before (bytes_of m)) → 64 * i + 64 < 2 ^ 62
fits m i h =
    let b = m.bounded in
    omega (arith, followed_fits m.before m.first.now m.head.now m.tail.now m.last.now m.whole (omega arith))

pub overflow_mul-at : goal.overflow_mul-at
overflow_mul-at c = omega (arith, fits c.args.message.now c.args.i c.requires.i_in_bounds)

pub overflow_add-at : goal.overflow_add-at
overflow_add-at c = omega (arith, fits c.args.message.now c.args.i c.requires.i_in_bounds)

pub returns-then-at-message : goal.returns-then-at-message
returns-then-at-message c =
    let m = c.args.message.now in
    c.words_at.ensures ∙ block_first m.before m.first.now m.head.now m.tail.now m.last.now c.args.i c.if-at-message.true

pub overflow_add-at-then-start-at : goal.overflow_add-at-then-start-at
overflow_add-at-then-start-at c = omega (arith, fits c.args.message.now c.args.i c.requires.i_in_bounds)

pub returns-then-at-start : goal.returns-then-at-start
returns-then-at-start c =
    let m = c.args.message.now in
    c.words_at-then-at-start.ensures
    ∙ block_tail m.before m.first.now m.head.now m.tail.now m.last.now c.args.i c.if-start-at.true c.if-at-start.true

pub laid_words-requires : goal.laid_words-requires
laid_words-requires c =
    record {
      in_bounds = (omega (arith, fits c.args.message.now c.args.i c.requires.i_in_bounds), c.requires.i_in_bounds);
      words_len = c.requires.words_len;
    }

pub returns-then-start-at : goal.returns-then-start-at
returns-then-start-at c = c.laid_words.ensures ∙ block_words _ _

pub laid_words-requires-2 : goal.laid_words-requires-2
laid_words-requires-2 c =
    record {
      in_bounds = (omega (arith, fits c.args.message.now c.args.i c.requires.i_in_bounds), c.requires.i_in_bounds);
      words_len = c.requires.words_len;
    }

pub returns : goal.returns
returns c = c.laid_words-2.ensures ∙ block_words _ _
