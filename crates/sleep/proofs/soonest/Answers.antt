-- `sleep::soonest` meets its contract: the least of its three counts is the number of the next thing that time does.
use Prim.Native.Nat.{◌<◌, ◌^◌}
use mathlib.Core.Path.{◌≡◌}
use native.Mathlib.Omega.{arith}
use Rattle.unit.proofs.Lines.{lines}
use Rattle.sleep.specs.Counts.{soonest_of}
use Rattle.sleep.proofs.LeastCount.{soonest_of_lem}
use Rattle.sleep.proofs.soonest.Goals as goal

pub window_left-window-requires : goal.window_left-window-requires
window_left-window-requires c = (lines _ c.requires).tenth

pub returns : goal.returns
returns c =
    let u = c.args.u in
    let seconds : u.clock.seconds < 2 ^ 32 = omega (arith, c.well_formed.0) in
    let is : c.or_sooner-2.result ≡ soonest_of u =
    rw (c.or_sooner-2.ensures, c.or_sooner.ensures, c.ring_left.ensures, c.window_left-window.ensures) in
    rw is (soonest_of_lem u seconds c.requires)
