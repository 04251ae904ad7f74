-- `inverse_keys::unmix_keys` meets its contract: the words before i are mixed back.
use mathlib.Core.Path.{◌≡◌}
use Prim.Native.Nat.{◌*◌}
use native.Mathlib.Omega.{arith}
use Rattle.inverse_keys.proofs.Turns.{none, one_more}
use Rattle.inverse_keys.proofs.unmix_keys.Goals as goal

pub loop-i-init : goal.loop-i-init
loop-i-init c = none c.args.keys.now

pub loop-i-preserved : goal.loop-i-preserved
loop-i-preserved c =
    let l = c.loop-i in
    let long = l.invariant.long in
    one_more l.i _ l.keys c.unmixed.result (omega arith) (omega arith) l.invariant c.unmixed.ensures

pub returns : goal.returns
returns c =
    let l = c.loop-i in
    let e : l.i ≡ 4 * c.args.nr = omega arith in
    rw e at l.invariant
