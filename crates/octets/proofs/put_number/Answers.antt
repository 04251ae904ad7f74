-- `octets::put_number` meets its contract. The last byte is put first: putting the bytes of `rest` that are left into what there is
-- always gives the whole number put into what came in.
use mathlib.Core.Path.{◌≡◌, sym, ◌∙◌}
use Prim.Native.Nat.{ℕ, suc, ◌+◌, ◌-◌, ◌<◌}
use native.Mathlib.Omega.{arith}
use lib.ListN.{length, length-set}
use Rattle.laws.specs.Bytes.{big_endian}
use Rattle.laws.proofs.BigEndian.{length_big_endian}
use Rattle.octets.proofs.Pasting.{pasted_none, number_turn}
use Rattle.octets.proofs.put_number.Goals as goal

pub loop-place-preserved : goal.loop-place-preserved
loop-place-preserved c =
    let turn = c.loop-place in
    let at : ℕ = c.args.at in
    let left : ℕ = turn.place - 1 - at in
    let one : suc left ≡ turn.place - at = omega arith in
    let there : at + left ≡ turn.place - 1 = omega arith in
    let room : at + left < length turn.to = omega arith in
    (simp length-set turn.invariant.0, rw (there, one) at (number_turn turn.to at left turn.rest room) ∙ turn.invariant.1)

pub returns : goal.returns
unfolding big_endian
returns c =
    let turn = c.loop-place in
    let none : turn.place - c.args.at ≡ 0 = omega arith in
    record {
      put_is = sym (pasted_none turn.to c.args.at) ∙ (rw none at turn.invariant.1);
      size_is = length_big_endian c.args.width c.args.n;
    }
