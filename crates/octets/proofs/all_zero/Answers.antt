-- `octets::all_zero` meets its contract: nothing gathered so far and the bytes from the next one on together decide.
use Prim.Native.Nat.{◌+◌}
use mathlib.Core.Path.{sym, ap, ◌∙◌}
use mathlib.Core.Bool.{Bool, ◌&&◌}
use native.Mathlib.Omega.{arith}
use lib.Dec.{eqb}
use lib.ListN.{get_or, drop}
use Rattle.laws.specs.Bytes.{all_zero}
use Rattle.laws.proofs.Same.{zeros_from, zeros_end}
use Rattle.octets.proofs.Gathered.{gathered_bits, and_assoc, and_true}
use Rattle.octets.proofs.all_zero.Goals as goal

pub loop-b-preserved : goal.loop-b-preserved
loop-b-preserved c =
    let turn = c.loop-b in
    let s = c.args.s.now in
    let i = turn.b-index in
    turn.invariant
    ∙ ap (λ (t : Bool). eqb turn.bits 0 && t) (zeros_from s i (omega arith))
    ∙ sym (and_assoc (eqb turn.bits 0) (eqb (get_or s i 0) 0) _)
    ∙ ap (λ (t : Bool). t && all_zero (drop (i + 1) s)) (sym (gathered_bits turn.bits (get_or s i 0)))

pub returns : goal.returns
returns c =
    let turn = c.loop-b in
    sym
    (turn.invariant
    ∙ ap (λ (t : Bool). eqb turn.bits 0 && t) (zeros_end c.args.s.now turn.b-index (omega arith))
    ∙ and_true (eqb turn.bits 0))
