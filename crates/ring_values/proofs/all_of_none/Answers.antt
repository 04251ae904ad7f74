-- `ring_values::all_of_none` meets its contract: where all are asked for, the mask is that of all.
use Rattle.ring_values.proofs.RingValues.{none_asked}
use borrow.Author.Tests.{ne_eqb}
use Rattle.ring_values.proofs.all_of_none.Goals as goal

pub returns-then-additional : goal.returns-then-additional
returns-then-additional c =
    none_asked c.args.s c.args.additional.now c.requires.1 c.if-additional.true

pub returns-else-additional : goal.returns-else-additional
returns-else-additional c =
    rw (ne_eqb _ 255 c.if-additional.false)
