-- `tag::button` meets its contract: what passes the guards is handed on, and what does not is refused by them.
use Rattle.tag.specs.Calls.{guarded, call, own}
use Rattle.tag.proofs.Guards.{answering_own, answering_refuses, ready_passed}
use Rattle.unit.proofs.Ends.{refused_answers}
use Rattle.tag.proofs.button.Goals as goal

pub pressed-requires : goal.pressed-requires
pressed-requires c = (ready_passed _ _ c.ready.ensures c.in-Ok.is).1

pub returns-in-Ok : goal.returns-in-Ok
unfolding guarded call own
returns-in-Ok c = rw (answering_own _ _ c.ready.ensures _ c.in-Ok.is) c.pressed.ensures

pub returns-in-Err : goal.returns-in-Err
unfolding guarded call own
returns-in-Err c = rw (answering_refuses _ _ c.ready.ensures _ c.in-Err.is) (refused_answers _ c.refuse.ensures)
