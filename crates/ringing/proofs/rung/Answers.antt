-- `ringing::rung` meets its contract, a case of the decision each.
use Rattle.authentication.proofs.Judged.{grant}
use Rattle.wire.specs.Signing.{ring_id}
use Rattle.ringing.proofs.Rings.{rung_ring, rung_stop, rung_fail}
use Rattle.ringing.proofs.rung.Goals as goal

pub returns-in-Started : goal.returns-in-Started
returns-in-Started c =
    grant c.args.u ring_id _ c.requires c.granted.ensures
    (rung_ring c.args.u c.args.volume c.args.left c.in-Started.is c.with_sound-after.ensures c.notice_data-started.ensures)

pub returns-in-Stopped : goal.returns-in-Stopped
returns-in-Stopped c =
    grant c.args.u ring_id _ c.requires c.granted-in-Stopped.ensures
    (rung_stop c.args.u c.args.volume c.args.left c.in-Stopped.is c.silenced.ensures c.notice_data-stopped.ensures)

pub returns-in-Failed : goal.returns-in-Failed
returns-in-Failed c =
    grant c.args.u ring_id _ c.requires c.granted-in-Failed.ensures
    (rung_fail c.args.u c.args.volume c.args.left c.in-Failed.is c.fail_data-failure.ensures)
