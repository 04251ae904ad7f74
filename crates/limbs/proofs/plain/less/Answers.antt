-- `plain::less` meets its contract: above limb i the two numbers are the same.
use mathlib.Core.Path.{sym}
use borrow.Author.Tests.{lt-ltb, le-ltb}
use Rattle.limbs.specs.Limbs.{value}
use Rattle.limbs.proofs.Limbs.{less_below, value_below}
use native.Mathlib.Omega.{arith}
use Rattle.limbs.proofs.plain.less.Goals as goal

pub returns-then-a-i : goal.returns-then-a-i
returns-then-a-i c =
    let l = c.loop-i in
    let a = c.args in
    let less = less_below a.a.now a.b.now l.i (λ k. (c.type_inv.a k).fits) (omega arith) (omega arith) (omega arith) l.invariant c.if-a-i.true in
    sym (lt-ltb (value a.a.now) (value a.b.now) less)

pub returns-then-b-i : goal.returns-then-b-i
returns-then-b-i c =
    let l = c.loop-i in
    let a = c.args in
    let less = less_below a.b.now a.a.now l.i (λ k. (c.type_inv.b k).fits) (omega arith) (omega arith) (omega arith) (sym l.invariant) c.if-b-i.true in
    sym (le-ltb (value a.a.now) (value a.b.now) (omega arith))

pub loop-i-preserved : goal.loop-i-preserved
loop-i-preserved c =
    let l = c.loop-i in
    let a = c.args in
    omega (arith, value_below a.a.now l.i (omega arith) (omega arith), value_below a.b.now l.i (omega arith) (omega arith))
