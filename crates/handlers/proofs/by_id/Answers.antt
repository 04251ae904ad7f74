-- `handlers::by_id` meets its contract: each ID has its handler.
use Rattle.handlers.proofs.Chosen.{chosen_none}
use Rattle.authentication.proofs.Judged.{denial, judged_with}
use mathlib.Core.Path.{refl}
use Rattle.write_shape.proofs.Shaped.{key_inside, ring_inside}
use Rattle.handlers.specs.ById.{by_id}
use Rattle.unit.specs.declared.Refusal.{Refusal}
use Rattle.wire.specs.Shape.{request}
use Rattle.handlers.proofs.by_id.Goals as goal

pub set_key-requires : goal.set_key-requires
set_key-requires c =
    (c.requires.0, key_inside c.args.additional.now c.requires.1 c.requires.0.sized c.in-2.is)

pub ring-requires : goal.ring-requires
ring-requires c = (
  c.requires.0,
  (ring_inside c.args.additional.now c.requires.1 c.requires.0.sized c.in-5.is, c.in-5.is),
)

pub returns-in-0 : goal.returns-in-0
unfolding by_id
returns-in-0 c = judged_with refl (rw c.in-0.is) c.read_parameters.ensures

pub returns-in-1 : goal.returns-in-1
unfolding by_id
returns-in-1 c = judged_with refl (rw c.in-1.is) c.read_state.ensures

pub returns-in-2 : goal.returns-in-2
unfolding by_id
returns-in-2 c = judged_with refl (rw c.in-2.is) c.set_key.ensures

pub returns-in-3 : goal.returns-in-3
unfolding by_id
returns-in-3 c = judged_with refl (rw c.in-3.is) c.clear_key.ensures

pub returns-in-4 : goal.returns-in-4
unfolding by_id
returns-in-4 c = judged_with refl (rw c.in-4.is) c.recover_key.ensures

pub returns-in-5 : goal.returns-in-5
unfolding by_id
returns-in-5 c = judged_with refl (rw c.in-5.is) c.ring.ensures

pub returns-in-6 : goal.returns-in-6
unfolding by_id
returns-in-6 c = judged_with refl (rw c.in-6.is) c.read_sound.ensures

pub returns-in-7 : goal.returns-in-7
unfolding by_id
returns-in-7 c = judged_with refl (rw c.in-7.is) c.protect.ensures

pub returns-in-8 : goal.returns-in-8
unfolding by_id
returns-in-8 c = judged_with refl (rw c.in-8.is) c.unprotect.ensures

pub returns-in_default : goal.returns-in_default
returns-in_default c =
    let known = c.args in
    let other = c.in_default.in_default-own.rest in
    denial known.u known.h.id Refusal.InvalidValue
    (chosen_none known.u (request known.h known.additional.now) known.reach other.0.0.0.0.0.0.0.0.1 other.0.0.0.0.0.0.0.1
    other.0.0.0.0.0.0.1 other.0.0.0.0.0.1 other.0.0.0.0.1 other.0.0.0.1 other.0.0.1 other.0.1
    other.1)
