-- `events::set` meets its contract: the end of the call is what its event prints.
use mathlib.Core.Path.{refl}
use native.Mathlib.Omega.{arith}
use Rattle.sizes.specs.Sizes.{answer_room}
use Rattle.tag.specs.Calls as tag
use Rattle.events.specs.Event.{asks, performed, success_text}
use Rattle.notation.specs.Text.{ascii}
use Rattle.events.proofs.NoAnswerBytes.{call_quiet}
use Rattle.events.proofs.Performed.{performs_completed}
use Rattle.events.proofs.set.Goals as goal

pub returns-in-Pairing : goal.returns-in-Pairing
unfolding performed success_text tag.call tag.own tag.guarded
returns-in-Pairing c =
    let known = c.args in
    rw c.in-Pairing.is
    (performs_completed (asks (tag.pairing c.in-Pairing.on)) known.u (ascii "answer=pairing\n") (omega arith) (λ o. refl) (call_quiet (tag.pairing c.in-Pairing.on) answer_room known.u refl) c.pairing.ensures c.completed.ensures)

pub returns-in-Battery : goal.returns-in-Battery
unfolding performed success_text tag.call tag.own tag.guarded
returns-in-Battery c =
    let known = c.args in
    rw c.in-Battery.is
    (performs_completed (asks (tag.battery known.level)) known.u (ascii "answer=battery\n") (omega arith) (λ o. refl) (call_quiet (tag.battery known.level) answer_room known.u refl) c.battery.ensures c.completed-in-Battery.ensures)

pub returns-in-Key : goal.returns-in-Key
unfolding performed success_text tag.call tag.own tag.guarded
returns-in-Key c =
    let known = c.args in
    rw c.in-Key.is
    (performs_completed (asks (tag.account_key known.bytes.now)) known.u (ascii "answer=key\n") (omega arith) (λ o. refl) (call_quiet (tag.account_key known.bytes.now) answer_room known.u refl) c.account_key.ensures c.completed-in-Key.ensures)

pub returns-in-Disconnect : goal.returns-in-Disconnect
unfolding performed success_text tag.call tag.own tag.guarded
returns-in-Disconnect c =
    let known = c.args in
    rw c.in-Disconnect.is
    (performs_completed (asks tag.disconnect) known.u (ascii "answer=disconnect\n") (omega arith) (λ o. refl) (call_quiet tag.disconnect answer_room known.u refl) c.disconnect.ensures c.completed-in-Disconnect.ensures)
