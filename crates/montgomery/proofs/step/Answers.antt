-- `montgomery::step` meets its contract: the base times the limbs written, with the carries and what is left of the sum above
-- them, makes the sum.
use mathlib.Core.Path.{◌≡◌, refl, ap, ◌∙◌}
use Prim.Native.Nat.{ℕ, ◌+◌, ◌*◌}
use lib.ListN.{length, get_or}
use Rattle.limbs.specs.Limbs.{over, value}
use Rattle.montgomery.proofs.Steps.{exact, step_start, step_turn, step_end, of_quotient}
use native.Mathlib.Omega.{arith}
use Rattle.montgomery.proofs.step.Goals as goal

pub loop-i-init : goal.loop-i-init
unfolding over
loop-i-init c =
    let a = c.args in
    let first = c.sum-first in
    let bottom = c.low-bottom in
    let q = c.low-q in
    let zero = exact (get_or a.m.now 0 0) a.inv bottom.result q.result c.requires.0.inverse c.sum.result c.sum.ensures q.ensures in
    step_start a.t.now a.b.now a.m.now a.x q.result a.top (omega arith) (omega arith)
    first.result bottom.result c.sum-2.result c.high-carry.result c.high-carry_m.result (omega arith) first.ensures bottom.ensures c.sum-2.ensures zero c.high-carry.ensures c.high-carry_m.ensures

pub loop-i-preserved : goal.loop-i-preserved
loop-i-preserved c =
    let l = c.loop-i in
    let a = c.args in
    let limb = c.low-in-loop-i in
    step_turn l.t a.b.now a.m.now a.x c.low-q.result a.top (omega arith) (omega arith)
    l.i l.carry l.carry_m c.sum-s.result c.low.result c.sum-z.result limb.result c.high-carry-in-loop-i.result c.high-carry_m-in-loop-i.result
    (over a.t.now a.top + a.x * value a.b.now + c.low-q.result * value a.m.now)
    (omega arith) (omega arith) c.sum-s.ensures c.low.ensures c.sum-z.ensures limb.ensures c.high-carry-in-loop-i.ensures c.high-carry_m-in-loop-i.ensures l.invariant

pub returns : goal.returns
returns c =
    let l = c.loop-i in
    let a = c.args in
    let q = c.low-q in
    let first = c.sum-first in
    let multiple = of_quotient a.t.now a.b.now a.m.now a.x q.result a.top (omega arith) (omega arith)
    first.result c.low-bottom.result c.sum.result a.inv (omega arith) first.ensures c.low-bottom.ensures c.sum.ensures q.ensures in
    let end : l.i ≡ length a.m.now = omega arith in
    step_end l.t a.b.now a.m.now a.x q.result a.top (omega arith) (omega arith)
    l.carry l.carry_m (a.top + l.carry + l.carry_m) c.low-2.result c.high.result
    (over a.t.now a.top + a.x * value a.b.now + q.result * value a.m.now)
    (omega arith) refl c.low-2.ensures c.high.ensures (rw end at l.invariant)
    ∙ ap (λ (j : ℕ). over a.t.now a.top + a.x * value a.b.now + j * value a.m.now) multiple
