-- `frame_reader::head_right` meets its contract. The loop's invariant: the bytes passed are right. It ends at the first byte that is not, at the
-- text's end, or with the head.
use native.Mathlib.Omega.{arith}
use borrow.Author.Tests.{ltb-true, ltb-false}
use Rattle.laws.proofs.Flags.{granted, refuted}
use Rattle.frame_reader.specs.Reader.{first_wrong}
use Rattle.frame_reader.proofs.Claims.{wrong_within}
use Rattle.frame_reader.proofs.head_right.Goals as goal

pub returns-then-text-at : goal.returns-then-text-at
returns-then-text-at c =
    omega (arith, wrong_within c.args.size c.args.text.now)

pub returns-then-not-right : goal.returns-then-not-right
returns-then-not-right c =
    omega (arith, ltb-false c.loop-at.at (first_wrong c.args.size c.args.text.now) (refuted c.right.ensures c.if-not-right.true))

pub loop-at-preserved : goal.loop-at-preserved
loop-at-preserved c =
    omega (arith, ltb-true c.loop-at.at (first_wrong c.args.size c.args.text.now) (granted c.right.ensures c.if-not-right.false))

pub returns : goal.returns
returns c = omega arith
