-- `ring_decisions::stop_decision` meets its contract, a case of the sound each.
use borrow.Author.Tests.{eq-eqb, ne_eqb}
use Rattle.ring_decisions.proofs.stop_decision.Goals as goal

pub returns-then-mask-reach-eq0 : goal.returns-then-mask-reach-eq0
returns-then-mask-reach-eq0 c =
    rw (c.in-Ringing.is, eq-eqb _ 0 c.if-mask-reach-eq0.true)

pub returns-else-mask-reach-eq0 : goal.returns-else-mask-reach-eq0
returns-else-mask-reach-eq0 c =
    rw (c.in-Ringing.is, ne_eqb _ 0 c.if-mask-reach-eq0.false)
