use mathlib.Core.Path.{◌≡◌}
use Prim.Native.Nat.{◌+◌, ◌*◌}
use lib.ListN.{take, drop}
use Rattle.limbs.specs.Limbs.{over, value}
use Rattle.limbs.proofs.plain.add_times.Given as goal

abbrev pub invariant-loop-i : goal.invariant-loop-i
invariant-loop-i l = over (take l.i l.t) (l.carry + value (drop l.i l.t) + l.x * value (drop l.i l.b)) ≡ value l.initial.t + l.x * value l.b
