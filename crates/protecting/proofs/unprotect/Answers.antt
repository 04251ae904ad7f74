-- `protecting::unprotect` meets its contract, an end each.
use Rattle.authentication.proofs.Judged.{denial, grant}
use Rattle.laws.proofs.Flags.{granted, refuted}
use Rattle.unit.specs.declared.Refusal.{Refusal}
use Rattle.wire.specs.Shape.{request}
use native.Mathlib.Omega.{arith}
use Rattle.protecting.proofs.Protects.{unprotect_untagged, unprotect_unproved, unprotect_off}
use Rattle.protecting.proofs.unprotect.Goals as goal

pub tagged-requires : goal.tagged-requires
tagged-requires c =
    omega (arith, c.well_formed.1.0, c.requires.sized)

pub returns-then-not-tagged : goal.returns-then-not-tagged
returns-then-not-tagged c =
    denial c.args.u c.args.h.id Refusal.NotAuthenticated
    (unprotect_untagged c.args.u (request c.args.h c.args.additional.now) (refuted (c.tagged.ensures _ c.derived_key-key.ensures) c.if-not-tagged.true))

pub returns-then-not-proves : goal.returns-then-not-proves
returns-then-not-proves c =
    denial c.args.u c.args.h.id Refusal.NotAuthenticated
    (unprotect_unproved c.args.u (request c.args.h c.args.additional.now) (granted (c.tagged.ensures _ c.derived_key-key.ensures) c.if-not-tagged.false) (refuted c.proves.ensures c.if-not-proves.true))

pub returns : goal.returns
returns c =
    grant c.args.u c.args.h.id _ c.derived_key-key.ensures c.granted.ensures
    (unprotect_off c.args.u (request c.args.h c.args.additional.now) (granted (c.tagged.ensures _ c.derived_key-key.ensures) c.if-not-tagged.false) (granted c.proves.ensures c.if-not-proves.false) c.with_protection-after.ensures)
