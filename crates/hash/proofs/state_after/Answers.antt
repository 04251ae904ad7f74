-- `hash::state_after` is the last hash value. The loop's invariant: the hash value is that of the blocks before and of i more.
use mathlib.Core.Path.{refl, ap, ◌∙◌}
use native.Mathlib.Omega.{arith}
use lib.ListN.{length}
use Rattle.padding.specs.Parts.{bytes_of}
use Rattle.padding.proofs.Padded.{length_block}
use Rattle.hash.proofs.Hashed.{value_start, value_more, value_ends, block_within}
use Rattle.hash.proofs.state_after.Goals as goal

pub loop-i-init : goal.loop-i-init
loop-i-init c = (refl, λ p n e. value_start p _ c.args.start (rw n c.args.message.now.whole) e)

pub load-requires : goal.load-requires
load-requires c =
    let m = c.args.message.now in
    let below = c.loop-i-test.true in
    record {
      i_in_bounds = block_within m.before m.whole (bytes_of m) c.loop-i.i (omega arith);
      words_len = c.loop-i.invariant.0;
    }

pub compress-state-requires : goal.compress-state-requires
compress-state-requires c = ap length c.load.ensures ∙ length_block _ _

pub loop-i-preserved : goal.loop-i-preserved
loop-i-preserved c =
    let at = c.loop-i in
    let done = c.compress-state in (
      done.ensures.1,
      λ p n e.
          value_more p _ at.i at.state _ done.result (rw n c.args.message.now.whole) (at.invariant.1 p n e) c.load.ensures done.ensures.0,
    )

pub returns : goal.returns
returns c = λ p n e.
    let at = c.loop-i in
    let m = c.args.message.now in
    value_ends m.before m.whole (bytes_of m) p at.i at.state n (omega arith) (at.invariant.1 p n e)
