-- `events::asked` meets its contract: what the call answers is what its event prints.
use mathlib.Core.Path.{refl}
use native.Mathlib.Omega.{arith}
use Rattle.sizes.specs.Sizes.{answer_room}
use Rattle.tag.specs.Calls as tag
use Rattle.events.specs.Event.{asks, performed, success_text}
use Rattle.notation.specs.Text.{ascii}
use Rattle.events.proofs.Performed.{answers_within, performs_answered}
use Rattle.events.proofs.asked.Goals as goal

pub answered-requires : goal.answered-requires
answered-requires c =
    let called = c.read-step in
    (omega arith, (omega arith, (answers_within answer_room called.ensures (omega arith), omega arith)))

pub answered-requires-in-Write : goal.answered-requires-in-Write
answered-requires-in-Write c =
    let called = c.write-step in
    (omega arith, (omega arith, (answers_within answer_room called.ensures (omega arith), omega arith)))

pub answered-requires-in-Button : goal.answered-requires-in-Button
answered-requires-in-Button c =
    let called = c.button-step in
    (omega arith, (omega arith, (answers_within answer_room called.ensures (omega arith), omega arith)))

pub answered-requires-in-Frame : goal.answered-requires-in-Frame
answered-requires-in-Frame c =
    let called = c.advertise-step in
    (omega arith, (omega arith, (answers_within answer_room called.ensures (omega arith), omega arith)))

pub returns-in-Read : goal.returns-in-Read
unfolding performed success_text
returns-in-Read c =
    let known = c.args in
    rw c.in-Read.is
    (performs_answered (asks (tag.read known.bytes.now)) known.u (ascii "answer=read\n") (omega arith) (λ o a. refl) c.read-step.ensures (omega arith) c.answered.ensures)

pub returns-in-Write : goal.returns-in-Write
unfolding performed success_text
returns-in-Write c =
    let known = c.args in
    rw c.in-Write.is
    (performs_answered (asks (tag.write (record { bytes = known.kept.now; reach = known.number }))) known.u (ascii "answer=write\n") (omega arith) (λ o a. refl) c.write-step.ensures (omega arith) c.answered-in-Write.ensures)

pub returns-in-Button : goal.returns-in-Button
unfolding performed success_text
returns-in-Button c =
    let known = c.args in
    rw c.in-Button.is
    (performs_answered (asks tag.button) known.u (ascii "answer=button\n") (omega arith) (λ o a. refl) c.button-step.ensures (omega arith) c.answered-in-Button.ensures)

pub returns-in-Frame : goal.returns-in-Frame
unfolding performed success_text
returns-in-Frame c =
    let known = c.args in
    rw c.in-Frame.is
    (performs_answered (asks tag.frame) known.u (ascii "answer=frame\n") (omega arith) (λ o a. refl) c.advertise-step.ensures (omega arith) c.answered-in-Frame.ensures)
