-- `tag::disconnect` meets its contract: the unit after the connection where it passes the guard, and else its refusal.
use mathlib.Core.Path.{◌∙◌}
use Rattle.key_calls.specs.Keys.{disconnected}
use Rattle.tag.specs.Calls.{guarded, call, own}
use Rattle.tag.proofs.Guards.{formed_own, formed_refuses}
use Rattle.unit.proofs.Ends.{refused_completes, done_completes}
use Rattle.tag.proofs.disconnect.Goals as goal

pub returns-in-Ok : goal.returns-in-Ok
unfolding guarded call own disconnected
returns-in-Ok c = rw (formed_own _ c.formed.ensures _ c.in-Ok.is) (done_completes (c.accept.ensures.0 ∙ c.ended.ensures, c.accept.ensures.1))

pub returns-in-Err : goal.returns-in-Err
unfolding guarded call own disconnected
returns-in-Err c = rw (formed_refuses _ c.formed.ensures _ c.in-Err.is) (refused_completes c.refuse.ensures)
