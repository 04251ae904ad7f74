-- `plain::twice` meets its contract: the limbs written, with the carry and the double of what is left above them, make the whole.
use Prim.Native.Nat.{◌+◌, ◌*◌}
use lib.ListN.{drop}
use Rattle.limbs.specs.Limbs.{over, value}
use Rattle.limbs.proofs.Limbs.{over_last, value_end}
use Rattle.limbs.proofs.Turns.{twice_turn}
use native.Mathlib.Omega.{arith}
use Rattle.limbs.proofs.plain.twice.Goals as goal

pub loop-i-init : goal.loop-i-init
unfolding over
loop-i-init c = omega arith

pub loop-i-preserved : goal.loop-i-preserved
loop-i-preserved c =
    let l = c.loop-i in
    let a = c.args in
    twice_turn l.t l.i c.low.result c.high-carry.result c.sum-s.result (omega arith) c.low.ensures c.high-carry.ensures
    l.carry (2 * value a.t.now + a.bit) c.sum-s.ensures l.invariant

pub returns : goal.returns
returns c =
    let l = c.loop-i in
    let a = c.args in
    over_last l.t l.i l.carry (l.carry + 2 * value (drop l.i l.t)) (2 * value a.t.now + a.bit)
    (omega arith) (omega (arith, value_end l.t l.i (omega arith))) l.invariant
