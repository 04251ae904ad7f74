-- `notation::text::hex` meets its contract: the digits of the bytes passed stand in their place.
use Prim.Native.Nat.{◌*◌}
use mathlib.Core.Path.{◌≡◌, sym, ◌∙◌}
use native.Mathlib.Omega.{arith}
use lib.ListN.{length, take, length-set}
use lib.Seq.{take_all}
use borrow.Author.Rules.{rules}
use Rattle.notation.specs.Text.{hex}
use Rattle.notation.proofs.Placed.{placed_none}
use Rattle.notation.proofs.Hex.{hex_turn, length_hex}
use Rattle.notation.proofs.text.hex.Goals as goal

pub loop-b-init : goal.loop-b-init
unfolding hex
loop-b-init c = (omega arith, search rules, sym (placed_none _ _))

pub bounds-out-next-in-loop-b : goal.bounds-out-next-in-loop-b
bounds-out-next-in-loop-b c = rw length-set (omega arith)

pub loop-b-preserved : goal.loop-b-preserved
loop-b-preserved c =
    let start = c.args in
    let turn = c.loop-b in (
      omega arith,
      search rules,
      hex_turn start.bytes.now start.out.now turn.out start.at turn.b-index turn.next _ _ (omega arith) turn.invariant.2 turn.invariant.0 (omega arith) c.digit.ensures c.digit-in-loop-b.ensures,
    )

pub returns : goal.returns
returns c =
    let start = c.args in
    let turn = c.loop-b in
    let all : take turn.b-index start.bytes.now ≡ start.bytes.now = take_all turn.b-index start.bytes.now (omega arith) in
    let size : length (hex start.bytes.now) ≡ 2 * length start.bytes.now = length_hex start.bytes.now in
    record { next_is = omega arith; bytes_are = turn.invariant.2 ∙ rw all }
