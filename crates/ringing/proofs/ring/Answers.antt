-- `ringing::ring` meets its contract, an end each.
use Rattle.authentication.proofs.Judged.{denial, judged_with}
use Rattle.laws.proofs.Flags.{granted, refuted}
use Rattle.unit.proofs.Lines.{lines}
use Rattle.unit.specs.declared.Refusal.{Refusal}
use Rattle.wire.specs.Shape.{request}
use native.Mathlib.Omega.{arith}
use Rattle.ringing.proofs.Rings.{ring_kept_out, ring_values_lem, ring_rung}
use Rattle.ringing.proofs.ring.Goals as goal

pub let_through-requires : goal.let_through-requires
let_through-requires c =
    (c.derived_key-key.ensures, omega (arith, c.requires.1.0))

pub returns-then-not-let_through : goal.returns-then-not-let_through
returns-then-not-let_through c =
    denial c.args.u c.args.h.id Refusal.NotAuthenticated
    (ring_kept_out c.args.u (request c.args.h c.args.additional.now) c.args.reach (refuted c.let_through.ensures c.if-not-let_through.true))

pub ring_mask-ring-requires : goal.ring_mask-ring-requires
ring_mask-ring-requires c =
    (c.requires.1.0, (lines c.args.u c.requires.0.formed).settings.components)

pub ring_legal-requires : goal.ring_legal-requires
ring_legal-requires c =
    ((c.requires.1.0, (lines c.args.u c.requires.0.formed).settings.components), c.ring_mask-ring.ensures)

pub returns-then-not-ring_legal : goal.returns-then-not-ring_legal
returns-then-not-ring_legal c =
    denial c.args.u c.args.h.id Refusal.InvalidValue
    (ring_values_lem c.args.u (request c.args.h c.args.additional.now) c.args.reach (granted c.let_through.ensures c.if-not-let_through.false) (refuted c.ring_legal.ensures c.if-not-ring_legal.true))

pub returns : goal.returns
returns c =
    let as-rung = ring_rung c.args.u (request c.args.h c.args.additional.now) c.args.reach (granted c.let_through.ensures c.if-not-let_through.false)
    (granted c.ring_legal.ensures c.if-not-ring_legal.false) c.ring_mask-ring.ensures c.held_volume-volume.ensures c.asked_timeout-left.ensures c.ring_decision-decision.ensures in
    judged_with c.requires.1.1 as-rung c.rung.ensures
