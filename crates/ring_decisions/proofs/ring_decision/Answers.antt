-- `ring_decisions::ring_decision` meets its contract: a stop, a ring that reaches no part, and one that reaches some.
use borrow.Author.Tests.{eq-eqb, ne_eqb}
use Rattle.ring_decisions.specs.Decisions.{ring_decision}
use Rattle.ring_decisions.proofs.ring_decision.Goals as goal

pub returns-then-ring-eq0 : goal.returns-then-ring-eq0
unfolding ring_decision
returns-then-ring-eq0 c = rw (eq-eqb _ 0 c.if-ring-eq0.true) c.stop_decision.ensures

pub returns-then-parts-eq0 : goal.returns-then-parts-eq0
unfolding ring_decision
returns-then-parts-eq0 c = rw (ne_eqb c.args.ring 0 c.if-ring-eq0.false, eq-eqb _ 0 c.if-parts-eq0.true)

pub returns : goal.returns
unfolding ring_decision
returns c = rw (ne_eqb c.args.ring 0 c.if-ring-eq0.false, ne_eqb _ 0 c.if-parts-eq0.false)
