-- `octets::number` meets its contract: before a byte is read the bytes from it on give the number from what is read.
use mathlib.Core.Path.{◌≡◌, refl, ◌∙◌}
use native.Mathlib.Omega.{arith}
use borrow.Author.Rules.{rules}
use lib.Seq.{drop-length}
use lib.ListN.{length, get_or}
use Rattle.laws.specs.Bytes.{number, number_after}
use Rattle.octets.proofs.Numbers.{number_grows, number_below, number_next}
use Rattle.octets.proofs.number.Goals as goal

pub loop-b-init : goal.loop-b-init
unfolding number
loop-b-init c = (omega arith, refl)

pub overflow_mul-n : goal.overflow_mul-n
overflow_mul-n c =
    let turn = c.loop-b in
    let f = number_below turn.n turn.b-index 0 (omega arith) turn.invariant.0 (omega arith) in
    omega arith

pub loop-b-preserved : goal.loop-b-preserved
loop-b-preserved c =
    let turn = c.loop-b in
    let s = c.args.s.now in
    let i = turn.b-index in
    (number_grows turn.n i (get_or s i 0) turn.invariant.0 (search rules), number_next turn.n s i (omega arith) ∙ turn.invariant.1)

pub returns : goal.returns
unfolding number_after
returns c =
    let turn = c.loop-b in
    let s = c.args.s.now in
    let all : turn.b-index ≡ length s = omega arith in
    record { number_is = rw (all, drop-length s) at turn.invariant.1; small = rw all at turn.invariant.0 }
