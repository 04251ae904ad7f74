-- `modular::subtract_mod` meets its contract: where the one lent above t was used, m pays it back.
use native.Mathlib.Omega.{arith}
use borrow.Author.Rules.{rules}
use Rattle.modular.proofs.Reduced.{kept, borrowed}
use Rattle.modular.proofs.subtract_mod.Goals as goal

pub returns-then-subtract-eq0 : goal.returns-then-subtract-eq0
returns-then-subtract-eq0 c =
    let a = c.args in
    let s = c.subtract in
    let r = c.add_times in
    borrowed a.t.now s.new.t a.m.now (λ i. search rules) (λ i. (c.type_inv.m i).fits) (omega arith) (omega arith)
    a.b.now r.new.t r.result s.result (omega arith) (λ i. (c.type_inv.t i).fits) (omega arith) (omega arith) s.ensures.0 c.if-subtract-eq0.true r.ensures

pub returns-else-subtract-eq0 : goal.returns-else-subtract-eq0
returns-else-subtract-eq0 c =
    let a = c.args in
    let s = c.subtract in
    kept a.t.now s.new.t a.m.now (λ i. (c.type_inv.t i).fits) (λ i. (c.type_inv.m i).fits) (omega arith) (omega arith)
    a.b.now s.result (omega arith) (omega arith) s.ensures.0 s.ensures.1 c.if-subtract-eq0.false
