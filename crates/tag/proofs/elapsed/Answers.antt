-- `tag::elapsed` meets its contract: what passes the guards is handed on, and what does not is refused by them.
use Rattle.tag.specs.Calls.{guarded, elapsed}
use Rattle.tag.proofs.Guards.{answering_own, answering_refuses, ready_passed}
use Rattle.time.proofs.Refusing.{refused_passes}
use Rattle.tag.proofs.elapsed.Goals as goal

pub elapse-requires : goal.elapse-requires
elapse-requires c = ready_passed _ _ c.ready.ensures c.in-Ok.is

pub returns-in-Ok : goal.returns-in-Ok
unfolding guarded elapsed
returns-in-Ok c = rw (answering_own _ _ c.ready.ensures _ c.in-Ok.is) c.elapse.ensures

pub returns-in-Err : goal.returns-in-Err
unfolding guarded elapsed
returns-in-Err c = rw (answering_refuses _ _ c.ready.ensures _ c.in-Err.is) (refused_passes _ c.refused.ensures)
