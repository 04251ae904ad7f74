use mathlib.Core.Path.{◌≡◌}
use Prim.Native.Nat.{◌+◌, ◌*◌}
use lib.ListN.{take, drop}
use Rattle.limbs.specs.Limbs.{over, value}
use Rattle.limbs.proofs.plain.twice.Given as goal

abbrev pub invariant-loop-i : goal.invariant-loop-i
invariant-loop-i l = over (take l.i l.t) (l.carry + 2 * value (drop l.i l.t)) ≡ 2 * value l.initial.t + l.bit
