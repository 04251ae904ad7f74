-- `ringing::read_sound` meets its contract, an end each.
use Rattle.authentication.proofs.Judged.{denial, grant}
use Rattle.laws.proofs.Flags.{granted, refuted}
use Rattle.unit.specs.declared.Refusal.{Refusal}
use Rattle.wire.specs.Shape.{request}
use native.Mathlib.Omega.{arith}
use Rattle.ringing.proofs.Rings.{sound_untagged, sound_read_lem}
use Rattle.ringing.proofs.read_sound.Goals as goal

pub tagged-requires : goal.tagged-requires
tagged-requires c =
    omega (arith, c.well_formed.1.0, c.requires.sized)

pub returns-then-not-tagged : goal.returns-then-not-tagged
returns-then-not-tagged c =
    denial c.args.u c.args.h.id Refusal.NotAuthenticated
    (sound_untagged c.args.u (request c.args.h c.args.additional.now) (refuted (c.tagged.ensures _ c.derived_key-key.ensures) c.if-not-tagged.true))

pub returns : goal.returns
returns c =
    grant c.args.u c.args.h.id _ c.derived_key-key.ensures c.granted.ensures
    (sound_read_lem c.args.u (request c.args.h c.args.additional.now) (granted (c.tagged.ensures _ c.derived_key-key.ensures) c.if-not-tagged.false) c.sound_state-state.ensures)
