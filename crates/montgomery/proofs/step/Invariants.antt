use mathlib.Core.Path.{◌≡◌}
use Prim.Native.Nat.{◌+◌, ◌-◌, ◌*◌}
use lib.ListN.{take, drop}
use Rattle.limbs.specs.Limbs.{over, value}
use Rattle.montgomery.proofs.step.Given as goal

abbrev pub invariant-loop-i : goal.invariant-loop-i
invariant-loop-i l =
    4294967296 * over (take (l.i - 1) l.t) (l.carry + l.carry_m + over (drop l.i l.t) l.top + l.x * value (drop l.i l.b) + l.q * value (drop l.i l.m))
    ≡ over l.initial.t l.top + l.x * value l.b + l.q * value l.m
