-- `tag::advertise` meets its contract: what passes the guards is handed on, and what does not is refused by them.
use Rattle.unit.proofs.Lines.{lines}
use Rattle.tag.specs.Calls.{guarded, call, own}
use Rattle.tag.proofs.Guards.{answering_own, answering_refuses, ready_passed}
use Rattle.unit.proofs.Ends.{refused_answers}
use Rattle.tag.proofs.advertise.Goals as goal

pub shown-requires : goal.shown-requires
shown-requires c = let (right, enough) = ready_passed _ _ c.ready.ensures c.in-Ok.is in ((lines _ right).battery, enough)

pub returns-in-Ok : goal.returns-in-Ok
unfolding guarded call own
returns-in-Ok c = rw (answering_own _ _ c.ready.ensures _ c.in-Ok.is) c.shown.ensures

pub returns-in-Err : goal.returns-in-Err
unfolding guarded call own
returns-in-Err c = rw (answering_refuses _ _ c.ready.ensures _ c.in-Err.is) (refused_answers _ c.refuse.ensures)
