-- `plain::add_times` meets its contract: the limbs written, with the carry and what is left of t + x b above them, make the whole.
use mathlib.Core.Path.{ap}
use Prim.Native.Nat.{ℕ, ◌+◌, ◌*◌}
use lib.ListN.{drop}
use Rattle.limbs.specs.Limbs.{over, value}
use Rattle.limbs.proofs.Limbs.{over_last, value_end}
use Rattle.limbs.proofs.Turns.{times_turn}
use native.Mathlib.Omega.{arith}
use Rattle.limbs.proofs.plain.add_times.Goals as goal

pub loop-i-init : goal.loop-i-init
unfolding over
loop-i-init c = omega arith

pub loop-i-preserved : goal.loop-i-preserved
loop-i-preserved c =
    let l = c.loop-i in
    let a = c.args in
    times_turn l.t l.i c.low.result c.high-carry.result c.sum-s.result (omega arith) c.low.ensures c.high-carry.ensures
    a.b.now a.x l.carry (value a.t.now + a.x * value a.b.now) (omega arith) c.sum-s.ensures l.invariant

pub returns : goal.returns
returns c =
    let l = c.loop-i in
    let a = c.args in
    over_last l.t l.i l.carry (l.carry + value (drop l.i l.t) + a.x * value (drop l.i a.b.now)) (value a.t.now + a.x * value a.b.now)
    (omega arith) (omega (arith, value_end l.t l.i (omega arith), ap (λ (k : ℕ). a.x * k) (value_end a.b.now l.i (omega arith)))) l.invariant
