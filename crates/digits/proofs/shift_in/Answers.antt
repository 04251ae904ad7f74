-- `digits::shift_in` meets its contract: with some bits left, t is that at first with the bits before them after it, modulo m.
use mathlib.Core.Path.{◌≡◌, sym, ap, ◌∙◌}
use Prim.Native.Nat.{ℕ, ◌+◌, ◌*◌, ◌/◌, ◌%◌}
use Rattle.limbs.specs.Limbs.{over, value}
use native.Mathlib.Nat.{mod-lt, mod-eq_of_lt, div-one}
use Rattle.digits.proofs.Digits.{bit_turn}
use native.Mathlib.Omega.{arith}
use Rattle.digits.proofs.shift_in.Goals as goal

pub loop-place-init : goal.loop-place-init
loop-place-init c =
    let a = c.args in
    let bare : value a.t.now * 1 + a.byte / 256 ≡ value a.t.now = omega arith in
    (c.requires, sym (mod-eq_of_lt c.requires.less) ∙ ap (λ (k : ℕ). k % value a.m.now) (sym bare))

pub loop-place-preserved : goal.loop-place-preserved
loop-place-preserved c =
    let l = c.loop-place in
    let a = c.args in
    let u = c.twice-top in
    let r = c.reduce_once in (
      record { width = omega arith; less = rw r.ensures (mod-lt _ (omega arith)) },
      bit_turn (value l.t) (value a.t.now) a.byte (value a.m.now) l.place (over u.new.t u.result) (value r.new.t) (omega arith) (omega arith) l.invariant.1 u.ensures r.ensures,
    )

pub returns : goal.returns
returns c =
    let l = c.loop-place in
    let a = c.args in
    let none : l.place ≡ 0 = omega arith in
    let whole : value l.t ≡ (value a.t.now * 256 + a.byte / 1) % value a.m.now = rw none at l.invariant.1 in
    whole ∙ ap (λ (k : ℕ). (value a.t.now * 256 + k) % value a.m.now) (div-one a.byte)
