-- `modular::reduce_once` meets its contract: below m with nothing above it t is the remainder, else t less m is.
use mathlib.Core.Path.{sym, ap, ◌∙◌}
use Prim.Native.Nat.{ℕ, ◌%◌, ◌<◌}
use native.Mathlib.Nat.{mod-eq_of_lt}
use native.Mathlib.Omega.{arith}
use borrow.Author.Tests.{ltb-true, ltb-false}
use Rattle.limbs.specs.Limbs.{over, value}
use Rattle.limbs.proofs.Limbs.{over_none}
use Rattle.modular.proofs.Reduced.{reduced}
use Rattle.modular.proofs.reduce_once.Goals as goal
use Rattle.modular.proofs.reduce_once.Goals.{else-top-eq0-via-then-top-eq0+else-less, else-top-eq0-via-else-top-eq0}

pub returns-then-less : goal.returns-then-less
returns-then-less c =
    let a = c.args in
    let less : value a.t.now < value a.m.now = ltb-true (value a.t.now) (value a.m.now) (sym c.less.ensures ∙ c.if-less.true) in
    sym (mod-eq_of_lt less) ∙ ap (λ (k : ℕ). k % value a.m.now) (sym (over_none a.t.now) ∙ ap (over a.t.now) (sym c.if-top-eq0.true))

pub returns : goal.returns
returns c =
    let a = c.args in
    let s = c.subtract in
    reduced a.t.now s.new.t a.m.now (λ i. (c.type_inv.t i).fits) (λ i. (c.type_inv.m i).fits) (omega arith) (omega arith)
    a.top s.result (omega arith) (λ z. elim c.else-top-eq0.branch [
      | else-top-eq0-via-then-top-eq0+else-less w ↦ ltb-false (value a.t.now) (value a.m.now) (sym w.less.ensures ∙ w.if-less.false)
      | else-top-eq0-via-else-top-eq0 w ↦ absurd (w.if-top-eq0.false z)
    ]) s.ensures.0 s.ensures.1
