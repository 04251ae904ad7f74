-- `plain::subtract` meets its contract: whatever makes up what is left of the difference makes, above the limbs written, the whole.
use mathlib.Core.Path.{refl, ap, ◌∙◌}
use Prim.Native.Nat.{ℕ, ◌+◌}
use lib.ListN.{take}
use Rattle.limbs.specs.Limbs.{over, value}
use Rattle.limbs.proofs.Limbs.{over_last, over_end, value_end}
use Rattle.limbs.proofs.Turns.{minus_turn}
use native.Mathlib.Omega.{arith}
use Rattle.limbs.proofs.plain.subtract.Goals as goal

pub loop-i-init : goal.loop-i-init
unfolding over
loop-i-init c = (omega arith, λ w e. omega arith)

pub loop-i-preserved : goal.loop-i-preserved
loop-i-preserved c =
    let l = c.loop-i in
    let a = c.args in (
      omega arith,
      minus_turn l.t l.i c.low.result c.high-carry.result c.sum-s.result (omega arith) c.low.ensures c.high-carry.ensures
          a.b.now l.carry (value a.b.now) (over a.t.now 1) (omega arith) (omega (arith, c.type_inv.b l.i)) c.sum-s.ensures l.invariant.1,
    )

pub returns : goal.returns
returns c =
    let l = c.loop-i in
    let a = c.args in (
      ap (λ (k : ℕ). k + value a.b.now) (over_last l.t l.i l.carry l.carry (over (take l.i l.t) l.carry) (omega arith) refl refl)
          ∙ l.invariant.1 l.carry (omega (arith, value_end a.b.now l.i (omega arith), over_end l.t l.i 1 (omega arith))),
      l.invariant.0,
    )
