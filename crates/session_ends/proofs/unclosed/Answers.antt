-- `session_ends::unclosed` meets its contract.
use borrow.Author.Tests.{eq-eqb, ne_eqb}
use Rattle.notation.proofs.Placed.{puts_nothing}
use Rattle.session_ends.proofs.unclosed.Goals as goal

pub returns-then-count-eq0 : goal.returns-then-count-eq0
returns-then-count-eq0 c = rw (eq-eqb c.args.count 0 c.if-count-eq0.true) (puts_nothing 0 c.args.out.now)

pub returns : goal.returns
returns c = rw (ne_eqb c.args.count 0 c.if-count-eq0.false) c.malformed.ensures
