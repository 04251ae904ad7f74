use Prim.Native.Nat.{◌/◌, ◌^◌}
use Rattle.limbs.specs.Limbs.{value}
use Rattle.curve_laws.specs.Modulo.{power}
use Rattle.field.specs.Forms.{element, Holds}
use Rattle.field.proofs.Factored.power.Given as goal

abbrev pub invariant-loop-i : goal.invariant-loop-i
invariant-loop-i g l = Holds l.self.prime l.t (power (value l.self.prime.m) (element l.self.prime l.a) (value l.e / 2 ^ l.i))
