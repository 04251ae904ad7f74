-- `time::elapse` meets its contract: the closed form of its tenths, for each sound.
use Prim.Native.Nat.{◌<◌, ◌^◌}
use mathlib.Core.Path.{refl, ap, ◌∙◌}
use native.Mathlib.Omega.{arith}
use Rattle.unit.specs.Change.{silenced}
use Rattle.unit.proofs.Lines.{lines, ring_held}
use Rattle.time.specs.Time.{timeout_notice}
use Rattle.unit.proofs.Ends.{done_answers, wrote_answers}
use Rattle.time.proofs.Tenths.{silent_tenths, ringing_tenths, ended_tenths}
use Rattle.time.proofs.elapse.Goals as goal

pub later-after-requires : goal.later-after-requires
later-after-requires c = (lines _ c.requires.0).tenth

pub returns-then-tenths-end : goal.returns-then-tenths-end
returns-then-tenths-end c =
    let u = c.args.u in
    let seconds : u.clock.seconds < 2 ^ 32 = omega (arith, c.well_formed.0) in
    let after = rw c.later-after.ensures at c.with_sound.ensures in
    rw (ringing_tenths u (lines u c.requires.0).tenth seconds c.in-Ringing.is c.args.tenths c.if-tenths-end.true)
    (record { answers = done_answers (after, refl) refl refl; ended_is = refl })

pub returns-in-Silent : goal.returns-in-Silent
returns-in-Silent c =
    let u = c.args.u in
    let seconds : u.clock.seconds < 2 ^ 32 = omega (arith, c.well_formed.0) in
    rw (silent_tenths u (lines u c.requires.0).tenth seconds c.in-Silent.is c.args.tenths)
    (record { answers = done_answers (c.later-after.ensures, refl) refl refl; ended_is = refl })

pub returns-else-tenths-end : goal.returns-else-tenths-end
unfolding timeout_notice
returns-else-tenths-end c =
    let u = c.args.u in
    let l = lines u c.requires.0 in
    let seconds : u.clock.seconds < 2 ^ 32 = omega (arith, c.well_formed.0) in
    let after = c.silenced.ensures ∙ ap silenced c.later-after.ensures in
    let least = (ring_held l c.in-Ringing.is).least in
    rw (ended_tenths u l.tenth seconds c.in-Ringing.is c.args.tenths least c.if-tenths-end.false)
    (record { answers = wrote_answers (after, refl) c.stop_notice-count.ensures; ended_is = refl })
