-- `state_read::state_bits` meets its contract, a case of the two bits each.
use Rattle.state_read.proofs.state_bits.Goals as goal

pub returns-then-owner : goal.returns-then-owner
returns-then-owner c = rw (c.if-keyed.true, c.if-owner.true)

pub returns-else-owner : goal.returns-else-owner
returns-else-owner c = rw (c.if-keyed.true, c.if-owner.false)

pub returns-then-owner-2 : goal.returns-then-owner-2
returns-then-owner-2 c = rw (c.if-keyed.false, c.if-owner-2.true)

pub returns-else-owner-2 : goal.returns-else-owner-2
returns-else-owner-2 c = rw (c.if-keyed.false, c.if-owner-2.false)
