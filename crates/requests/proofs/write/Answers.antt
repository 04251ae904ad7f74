-- `requests::write` meets its contract: reach, shape, live nonce and identity key are tested in this order, and then the handler judges.
use Rattle.laws.proofs.Flags.{granted, refuted}
use Rattle.requests.proofs.Chosen.{reach_refused, judged_shapeless, judged_dead, judged_keyless, judged_by_id, write_refused, key_there_lem, write_ready, write_judged}
use Rattle.write_shape.proofs.Shaped.{head_inside}
use Rattle.unit.specs.declared.Refusal.{Refusal}
use Rattle.unit.proofs.Lines.{lines}
use Rattle.unit.proofs.Masks.{inside_small}
use mathlib.Core.Path.{refl, sym, ◌∙◌}
use native.Mathlib.Omega.{arith}
use borrow.Author.Tests.{not-true, not-false}
use Rattle.requests.proofs.write.Goals as goal

pub inside-requires : goal.inside-requires
inside-requires c =
    (lines c.args.u c.requires.0).settings.components

pub returns-then-not-inside : goal.returns-then-not-inside
returns-then-not-inside c =
    let known = c.args in
    reach_refused known.u known.w.now known.reach c.refuse.result known.answer.now c.refuse.ensures
    (refuted c.inside.ensures c.if-not-inside.true)

pub returns-then-not-shape_legal : goal.returns-then-not-shape_legal
returns-then-not-shape_legal c =
    let known = c.args in
    write_refused known.u known.w.now known.reach (granted c.inside.ensures c.if-not-inside.false) c.spent-after.ensures c.refuse-then-not-shape_legal.result Refusal.InvalidValue known.answer.now
    c.refuse-then-not-shape_legal.ensures
    (judged_shapeless known.u known.w.now known.reach (refuted c.shape_legal.ensures c.if-not-shape_legal.true))

pub returns-then-not-u : goal.returns-then-not-u
returns-then-not-u c =
    let known = c.args in
    write_refused known.u known.w.now known.reach (granted c.inside.ensures c.if-not-inside.false) c.spent-after.ensures c.refuse-then-not-u.result Refusal.NotAuthenticated
    known.answer.now c.refuse-then-not-u.ensures
    (judged_dead known.u known.w.now known.reach (granted c.shape_legal.ensures c.if-not-shape_legal.false)
    (not-true _ c.if-not-u.true))

pub head_of-h-requires : goal.head_of-h-requires
head_of-h-requires c =
    head_inside c.args.w.now (granted c.shape_legal.ensures c.if-not-shape_legal.false)

pub returns-then-not-key_there : goal.returns-then-not-key_there
returns-then-not-key_there c =
    let known = c.args in
    write_refused known.u known.w.now known.reach (granted c.inside.ensures c.if-not-inside.false) c.spent-after.ensures c.refuse-then-not-key_there.result Refusal.NotAuthenticated
    known.answer.now c.refuse-then-not-key_there.ensures
    (judged_keyless known.u known.w.now known.reach (granted c.shape_legal.ensures c.if-not-shape_legal.false)
    (not-false _ c.if-not-u.false)
    (key_there_lem known.u known.w.now known.reach (granted c.inside.ensures c.if-not-inside.false) c.spent-after.ensures c.head_of-h.ensures
    c.key_there.ensures ∙ c.if-not-key_there.true))

pub slice_bounds-by_id-count : goal.slice_bounds-by_id-count
slice_bounds-by_id-count c =
    head_inside c.args.w.now (granted c.shape_legal.ensures c.if-not-shape_legal.false)

pub slice_bounds-by_id-start : goal.slice_bounds-by_id-start
slice_bounds-by_id-start c =
    head_inside c.args.w.now (granted c.shape_legal.ensures c.if-not-shape_legal.false)

pub overflow_cast-reach : goal.overflow_cast-reach
overflow_cast-reach c =
    let small = inside_small c.args.reach c.args.u.settings.components (lines c.args.u c.requires.0).settings.components
    (granted c.inside.ensures c.if-not-inside.false) in
    omega (arith, small)

pub by_id-requires : goal.by_id-requires
by_id-requires c =
    let known = c.args in
    write_ready known.u known.w.now known.reach (granted c.inside.ensures c.if-not-inside.false) c.spent-after.ensures c.head_of-h.ensures c.requires.0
    (granted c.shape_legal.ensures c.if-not-shape_legal.false)

pub returns-in-Ok : goal.returns-in-Ok
returns-in-Ok c =
    let known = c.args in
    write_judged known.u known.w.now known.reach (granted c.inside.ensures c.if-not-inside.false) c.spent-after.ensures c.head_of-h.ensures c.conclude.result
    (judged_by_id known.u known.w.now known.reach (granted c.shape_legal.ensures c.if-not-shape_legal.false)
    (not-false _ c.if-not-u.false)
    (key_there_lem known.u known.w.now known.reach (granted c.inside.ensures c.if-not-inside.false) c.spent-after.ensures c.head_of-h.ensures
    c.key_there.ensures ∙ c.if-not-key_there.false))
    (rw c.in-Ok.is at c.by_id.ensures) (λ j p. c.conclude.ensures _ j refl p)

pub returns-in-Err : goal.returns-in-Err
returns-in-Err c =
    let known = c.args in
    write_judged known.u known.w.now known.reach (granted c.inside.ensures c.if-not-inside.false) c.spent-after.ensures c.head_of-h.ensures c.deny.result
    (judged_by_id known.u known.w.now known.reach (granted c.shape_legal.ensures c.if-not-shape_legal.false)
    (not-false _ c.if-not-u.false)
    (key_there_lem known.u known.w.now known.reach (granted c.inside.ensures c.if-not-inside.false) c.spent-after.ensures c.head_of-h.ensures
    c.key_there.ensures ∙ c.if-not-key_there.false))
    (rw c.in-Err.is at c.by_id.ensures)
    (λ j p.
    let same = c.spent.ensures ∙ sym c.spent-after.ensures in
    (rw same at c.deny.ensures) c.head_of-h.result.id j known.answer.now p)
