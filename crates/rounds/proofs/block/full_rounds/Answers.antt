-- `rounds::block::full_rounds` meets its contract: before a round, the rounds below it are the first full ones.
use mathlib.Core.Path.{◌≡◌, sym, ◌∙◌}
use Prim.Native.Nat.{◌+◌, ◌-◌}
use native.Mathlib.Omega.{arith}
use Rattle.words.specs.Words.{bytes_of}
use Rattle.rounds.specs.Rounds.{rounds}
use Rattle.rounds.proofs.Rounds.{rounds_zero, rounds_step}
use Rattle.rounds.proofs.block.full_rounds.Goals as goal

pub loop-round-init : goal.loop-round-init
loop-round-init c = λ block e. e ∙ sym (rounds_zero (bytes_of c.args.keys.now) block)

pub loop-round-preserved : goal.loop-round-preserved
loop-round-preserved c = λ block e.
    let l = c.loop-round in
    let keys = bytes_of c.args.keys.now in
    let before : l.s ≡ rounds keys (l.round - 1) block = l.invariant block e in
    let this : l.round - 1 + 1 ≡ l.round = omega arith in
    let next : l.round + 1 - 1 ≡ l.round = omega arith in
    let step = rw this at (rounds_step keys block (l.round - 1)) in
    rw next (cc)

pub returns : goal.returns
returns c =
    let l = c.loop-round in
    let a = c.args in
    let all : l.round ≡ a.nr = omega arith in
    l.invariant a.block c.add_round_key-s.ensures ∙ rw all
