-- `Factored::power` meets its contract: with some bits left, t is a to the number of the bits before them.
use Prim.Native.Nat.{◌≤◌}
use native.Mathlib.Omega.{arith}
use lib.ListN.{length}
use Rattle.limbs.specs.Limbs.{value}
use Rattle.field.specs.Forms.{element}
use Rattle.field.proofs.Powers.{power_start, power_turn, power_end}
use Rattle.field.proofs.Forms.{holds_as}
use Rattle.field.proofs.Factored.power.Goals as goal

pub loop-i-init : goal.loop-i-init
loop-i-init g c =
    let a = c.args in
    let f = a.self.now.prime in
    holds_as c.one-t.ensures (power_start (value f.m) (element f a.a) a.e.now f.field.large (λ k. (c.type_inv.e k).fits))

pub turn-t-requires : goal.turn-t-requires
turn-t-requires g c =
    let few : length c.args.self.now.prime.m ≤ 8 = c.args.self.now.prime.field.narrow in
    (omega arith, (omega arith, (c.loop-i.invariant.form, c.requires.0, omega arith)))

pub loop-i-preserved : goal.loop-i-preserved
loop-i-preserved g c =
    let a = c.args in
    let f = a.self.now.prime in
    let l = c.loop-i in
    holds_as c.turn-t.ensures
    (power_turn (value f.m) (element f a.a) (value a.e.now) l.i (element f l.t) c.bit.result
    (omega arith) l.invariant.holds c.bit.ensures)

pub returns : goal.returns
returns g c =
    let a = c.args in
    let f = a.self.now.prime in
    let l = c.loop-i in
    holds_as l.invariant (power_end (value f.m) (element f a.a) (value a.e.now) l.i (omega arith))
