-- `rounds::block::inv_full_rounds` meets its contract: with some rounds to go the loop still leads to what the start leads to.
use mathlib.Core.Path.{◌≡◌, refl}
use Prim.Native.Nat.{◌+◌, ◌-◌, ◌≤◌, ◌<◌}
use native.Mathlib.Omega.{arith}
use Rattle.words.specs.Words.{bytes_of}
use Rattle.rounds.specs.Rounds.{InvCipher}
use Rattle.rounds.proofs.Rounds.{inv_rounds_step}
use Rattle.rounds.proofs.Keys.{last_key}
use Rattle.rounds.proofs.block.inv_full_rounds.Goals as goal

pub loop-round-init : goal.loop-round-init
loop-round-init c = λ w k. refl

pub loop-round-preserved : goal.loop-round-preserved
loop-round-preserved c = λ w k.
    let l = c.loop-round in
    let nr = c.args.nr in
    let one : l.round - 1 - 1 + 1 ≡ l.round - 1 = omega arith in
    let inner : 1 ≤ l.round - 1 = omega arith in
    let few : l.round - 1 < nr = omega arith in
    let round = c.inv_full_round-next.ensures nr w k inner few in
    let before = l.invariant w k in
    cc (inv_rounds_step (bytes_of w) l.s (l.round - 1 - 1))

pub returns : goal.returns
unfolding InvCipher
returns c = λ w k.
    let l = c.loop-round in
    let a = c.args in
    let none : l.round - 1 ≡ 0 = omega arith in
    let before = l.invariant w k in
    cc (last_key a.nr w a.keys.now a.block k c.requires.1.1)
