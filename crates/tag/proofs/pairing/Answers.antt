-- `tag::pairing` meets its contract: what passes the guards is handed on, and what does not is refused by them.
use Rattle.tag.specs.Calls.{guarded, call, own}
use Rattle.tag.proofs.Guards.{formed_own, formed_refuses}
use Rattle.unit.proofs.Ends.{refused_completes}
use Rattle.tag.proofs.pairing.Goals as goal

pub returns-in-Ok : goal.returns-in-Ok
unfolding guarded call own
returns-in-Ok c = rw (formed_own _ c.formed.ensures _ c.in-Ok.is) c.turned.ensures

pub returns-in-Err : goal.returns-in-Err
unfolding guarded call own
returns-in-Err c = rw (formed_refuses _ c.formed.ensures _ c.in-Err.is) (refused_completes c.refuse.ensures)
