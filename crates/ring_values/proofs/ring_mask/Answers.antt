-- `ring_values::ring_mask` meets its contract.
use borrow.Author.Tests.{eq-eqb, ne_eqb}
use lib.ListN.{get_or}
use Rattle.ring_values.proofs.ring_mask.Goals as goal

pub returns-then-asked : goal.returns-then-asked
returns-then-asked c =
    rw (eq-eqb (get_or c.args.additional.now 0 0) 255 c.if-asked.true) c.ringable_mask.ensures.mask_is

pub returns : goal.returns
returns c =
    rw (ne_eqb (get_or c.args.additional.now 0 0) 255 c.if-asked.false)
