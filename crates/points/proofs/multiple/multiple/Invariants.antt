use Prim.Native.Nat.{◌-◌, ◌/◌, ◌^◌}
use Rattle.limbs.specs.Limbs.{value}
use Rattle.field.specs.Forms.{element}
use Rattle.curve_laws.proofs.Jacobian.{binary}
use Rattle.doubling.specs.Coordinates.{Held}
use Rattle.points.proofs.multiple.multiple.Given as goal

abbrev pub invariant-loop-i : goal.invariant-loop-i
invariant-loop-i g l =
    Held l.f.prime l.j (binary (value l.f.prime.m) (element l.f.prime l.q.x) (element l.f.prime l.q.y) (l.bits - l.i) (value l.r / 2 ^ l.i))
