use mathlib.Core.Path.{◌≡◌}
use Prim.Native.Nat.{ℕ, ◌+◌, ◌≤◌}
use lib.ListN.{take, drop}
use Rattle.limbs.specs.Limbs.{over, value}
use Rattle.limbs.proofs.plain.subtract.Given as goal

abbrev pub invariant-loop-i : goal.invariant-loop-i
invariant-loop-i l =
    (l.carry ≤ 1)
    × ((w : ℕ) → w + 1 + value (drop l.i l.b) ≡ l.carry + over (drop l.i l.t) 1 → over (take l.i l.t) w + value l.b ≡ over l.initial.t 1)
