-- `protecting::protect` meets its contract, an end each.
use Rattle.authentication.proofs.Judged.{denial, grant}
use Rattle.laws.proofs.Flags.{granted, refuted}
use Rattle.unit.specs.declared.Refusal.{Refusal}
use Rattle.wire.specs.Shape.{request}
use native.Mathlib.Omega.{arith}
use Rattle.protecting.proofs.Protects.{protect_untagged, protect_flag, protect_on}
use Rattle.protecting.proofs.protect.Goals as goal

pub tagged-requires : goal.tagged-requires
tagged-requires c =
    omega (arith, c.well_formed.1.0, c.requires.sized)

pub returns-then-not-tagged : goal.returns-then-not-tagged
returns-then-not-tagged c =
    denial c.args.u c.args.h.id Refusal.NotAuthenticated
    (protect_untagged c.args.u (request c.args.h c.args.additional.now) (refuted (c.tagged.ensures _ c.derived_key-key.ensures) c.if-not-tagged.true))

pub returns-then-flag-gt1 : goal.returns-then-flag-gt1
returns-then-flag-gt1 c =
    denial c.args.u c.args.h.id Refusal.InvalidValue
    (protect_flag c.args.u (request c.args.h c.args.additional.now) (granted (c.tagged.ensures _ c.derived_key-key.ensures) c.if-not-tagged.false) c.flag_of-flag.ensures c.if-flag-gt1.true)

pub returns : goal.returns
returns c =
    grant c.args.u c.args.h.id _ c.derived_key-key.ensures c.granted.ensures
    (protect_on c.args.u (request c.args.h c.args.additional.now) (granted (c.tagged.ensures _ c.derived_key-key.ensures) c.if-not-tagged.false) c.flag_of-flag.ensures c.if-flag-gt1.false c.with_protection-after.ensures)
