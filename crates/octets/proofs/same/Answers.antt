-- `octets::same` meets its contract: nothing gathered so far and the bytes from `i` on together decide.
use Prim.Native.Nat.{◌+◌}
use mathlib.Core.Path.{sym, ap, ◌∙◌}
use mathlib.Core.Bool.{Bool, ◌&&◌}
use native.Mathlib.Omega.{arith}
use lib.Dec.{eqb}
use lib.ListN.{get_or, drop}
use Rattle.laws.specs.Bytes.{same_bytes}
use Rattle.laws.proofs.Same.{lengths_differ, same_from, same_end}
use Rattle.octets.proofs.Gathered.{gathered, and_assoc, and_true}
use Rattle.octets.proofs.same.Goals as goal

pub returns-then-a-b : goal.returns-then-a-b
returns-then-a-b c = sym (lengths_differ _ _ c.if-a-b.true)

pub loop-i-preserved : goal.loop-i-preserved
loop-i-preserved c =
    let a = c.args.a.now in
    let b = c.args.b.now in
    let turn = c.loop-i in (
      turn.invariant.0,
      turn.invariant.1
          ∙ ap (λ (t : Bool). eqb turn.difference 0 && t) (same_from a b turn.i (omega arith) (omega arith))
          ∙ sym (and_assoc (eqb turn.difference 0) (eqb (get_or a turn.i 0) (get_or b turn.i 0)) _)
          ∙ ap (λ (t : Bool). t && same_bytes (drop (turn.i + 1) a) (drop (turn.i + 1) b)) (sym (gathered turn.difference (get_or a turn.i 0) (get_or b turn.i 0))),
    )

pub returns : goal.returns
returns c =
    let turn = c.loop-i in
    sym
    (turn.invariant.1
    ∙ ap (λ (t : Bool). eqb turn.difference 0 && t) (same_end c.args.a.now c.args.b.now turn.i (omega arith) (omega arith))
    ∙ and_true (eqb turn.difference 0))
