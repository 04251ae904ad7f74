-- `montgomery::montgomery` meets its contract: after i steps B^i times t is the product of a's lowest i limbs by b modulo m,
-- and t is below 2 m, so that one reduction ends it.
use mathlib.Core.Path.{◌≡◌, ap, ◌∙◌}
use Prim.Native.Nat.{ℕ, ◌+◌, ◌*◌, ◌^◌}
use native.Mathlib.Nat.{mod-lt}
use lib.ListN.{length, get_or, take}
use mathlib.Core.List.{List}
use lib.Seq.{take_all}
use Rattle.limbs.specs.Limbs.{over, value, quotient}
use Rattle.montgomery.proofs.Products.{value_take, quotient_less, stays_below, goes_on, product_at}
use native.Mathlib.Omega.{arith}
use Rattle.montgomery.proofs.montgomery.Goals as goal

pub loop-x-init : goal.loop-x-init
unfolding over value
loop-x-init c =
    let none : over c.args.t.now 0 ≡ 0 = c.requires.4 in
    (omega arith, 0, omega arith)

pub loop-x-preserved : goal.loop-x-preserved
loop-x-preserved c =
    let l = c.loop-x in
    let a = c.args in
    let s = c.step-top in
    let i = l.x-index in
    let x = get_or a.a.now i 0 in
    let q = quotient (value l.t + x * value a.b.now) a.inv in (
      stays_below (over l.t l.top) (over s.new.t s.result) x (value a.b.now) q (value a.m.now) s.ensures
          l.invariant.0 (omega arith) (c.type_inv.a i).fits (quotient_less (value l.t + x * value a.b.now) a.inv),
      l.invariant.1 + 4294967296 ^ i * q,
      goes_on (over l.t l.top) (over s.new.t s.result) x (value a.b.now) q (value a.m.now) s.ensures
          i (value (take i a.a.now)) (value (take (i + 1) a.a.now)) l.invariant.1 l.invariant.2 (value_take a.a.now i (omega arith)),
    )

pub returns : goal.returns
returns c =
    let l = c.loop-x in
    let a = c.args in
    let r = c.reduce_once in
    let n : l.x-index ≡ length a.m.now = omega arith in
    let whole : 4294967296 ^ length a.m.now * over l.t l.top ≡ value a.a.now * value a.b.now + l.invariant.1 * value a.m.now =
    rw n at l.invariant.2 ∙ ap (λ (d : List ℕ). value d * value a.b.now + l.invariant.1 * value a.m.now) (take_all (length a.m.now) a.a.now (omega arith)) in (
      record { width = omega arith; less = rw r.ensures (mod-lt (over l.t l.top) (omega arith)) },
      product_at (4294967296 ^ length a.m.now) (over l.t l.top) (value r.new.t) (value a.a.now * value a.b.now) l.invariant.1 (value a.m.now) whole r.ensures,
    )
