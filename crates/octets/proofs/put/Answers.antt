-- `octets::put` meets its contract: after i turns the first i bytes stand in the to from the place on.
use mathlib.Core.Path.{◌≡◌, refl}
use native.Mathlib.Omega.{arith}
use lib.ListN.{length, length-set}
use lib.Seq.{paste-zero}
use Rattle.laws.proofs.Copied.{copied_turn, copied_all}
use Rattle.octets.proofs.put.Goals as goal

pub loop-i-init : goal.loop-i-init
loop-i-init c = (paste-zero c.args.to.now c.args.at c.args.bytes.now, refl)

pub loop-i-preserved : goal.loop-i-preserved
loop-i-preserved c =
    let a = c.args in
    let now = c.loop-i in (
      copied_turn a.to.now a.at a.bytes.now now.to now.i 0 c.requires (omega arith) now.invariant.0,
      simp length-set now.invariant.1,
    )

pub returns : goal.returns
returns c =
    let a = c.args in
    let all : c.loop-i.i ≡ length a.bytes.now = omega arith in
    copied_all a.to.now a.at a.bytes.now c.loop-i.to c.loop-i.i all c.loop-i.invariant.0
