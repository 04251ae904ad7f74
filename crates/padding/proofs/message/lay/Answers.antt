-- `padding::message::lay` puts in what falls into the block. The loop's invariant: the part's first k bytes are in place, as far as they fall there.
use mathlib.Core.Path.{◌≡◌, ◌∙◌}
use mathlib.Core.List.{List, ◌++◌}
use Prim.Native.Nat.{ℕ, ◌+◌, ◌-◌, ◌≤◌, ◌<◌}
use native.Mathlib.Omega.{arith}
use native.Mathlib.Decide.{dec_le, dec_lt}
use lib.ListN.{length, take}
use Rattle.padding.specs.Blocks.{block_at}
use Rattle.padding.proofs.Laying.{laid_none, laid_skipped, laid_more, laid_all, laid_enough}
use Rattle.padding.proofs.message.lay.Goals as goal

pub loop-k-init : goal.loop-k-init
loop-k-init c = (omega arith, λ m n b. b ∙ skipped m n (dec_lt c.args.start c.args.at))
  where
    skipped : (m : List ℕ) → length m ≡ c.args.start → Dec (c.args.start < c.args.at)
        → block_at m c.args.at ≡ block_at (m ++ take c.saturating_sub-from.result c.args.part.now) c.args.at
    skipped m n (yes h) = laid_skipped m c.args.part.now c.args.at c.saturating_sub-from.result (rw n (omega arith)) (rw n h)
    skipped m n (no h) =
        let none : c.saturating_sub-from.result ≡ 0 = omega arith in
        rw none (laid_none m c.args.part.now c.args.at)

pub loop-k-preserved : goal.loop-k-preserved
loop-k-preserved c =
    let l = c.loop-k in
    let a = c.args in
    let j : ℕ = a.start + l.k - a.at in
    let more : l.k < length a.part.now = omega arith in
    let inside : j < 64 = omega arith in (
      omega arith,
      λ m n b.
          let e : length m + l.k ≡ a.at + j = rw n (omega arith) in
          laid_more m a.part.now a.at l.k j l.block more inside e (l.invariant.1 m n b),
    )

pub returns : goal.returns
returns c = λ m n b. c.loop-k.invariant.1 m n b ∙ ended m n (dec_le (length c.args.part.now) c.loop-k.k)
  where
    ended : (m : List ℕ) → length m ≡ c.args.start → Dec (length c.args.part.now ≤ c.loop-k.k)
        → block_at (m ++ take c.loop-k.k c.args.part.now) c.args.at ≡ block_at (m ++ c.args.part.now) c.args.at
    ended m n (yes h) = laid_all m c.args.part.now c.args.at c.loop-k.k h
    ended m n (no h) =
        let end : c.args.at + 64 ≤ c.args.start + c.loop-k.k = omega arith in
        laid_enough m c.args.part.now c.args.at c.loop-k.k (omega arith) (rw n end)
