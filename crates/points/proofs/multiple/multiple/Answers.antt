-- `multiple::multiple` meets its contract: with i bits left the point is what the binary method has made of the bits before them, and that is the multiple.
use Prim.Native.Nat.{◌≤◌}
use native.Mathlib.Omega.{arith}
use lib.ListN.{length}
use Rattle.limbs.specs.Limbs.{value}
use Rattle.field.specs.Forms.{element}
use Rattle.field.proofs.Forms.{holds_none}
use Rattle.points.proofs.Rules.{held_as, held_coordinates, held_multiplies, binary_start, binary_turn, binary_end}
use Rattle.points.proofs.multiple.multiple.Goals as goal

pub loop-i-init : goal.loop-i-init
loop-i-init g c =
    let a = c.args in
    let f = a.f.now.prime in
    held_as (record { x = c.one-x.ensures; y = c.one-x.ensures; z = holds_none f g.row.N (omega arith) })
    (binary_start (value f.m) (element f a.q.now.x) (element f a.q.now.y) a.bits (value a.r.now))

pub turn-j-requires : goal.turn-j-requires
turn-j-requires g c =
    let few : length c.args.f.now.prime.m ≤ 8 = c.args.f.now.prime.field.narrow in
    let j = c.loop-i.invariant in
    (omega arith, (omega arith, (omega arith, (record { x = j.x.form; y = j.y.form; z = j.z.form }, c.requires))))

pub loop-i-preserved : goal.loop-i-preserved
loop-i-preserved g c =
    let a = c.args in
    let f = a.f.now.prime in
    let l = c.loop-i in
    held_as c.turn-j.ensures
    (binary_turn (value f.m) (element f a.q.now.x) (element f a.q.now.y) a.bits (value a.r.now) l.i c.bit.result
    (omega arith) (omega arith) (held_coordinates l.invariant) c.bit.ensures)

pub returns : goal.returns
returns g c =
    let a = c.args in
    let f = a.f.now.prime in
    let l = c.loop-i in
    held_multiplies
    (held_as l.invariant (binary_end (value f.m) (element f a.q.now.x) (element f a.q.now.y) a.bits (value a.r.now) l.i (omega arith)))
