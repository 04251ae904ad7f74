use mathlib.Core.Path.{◌≡◌}
use Prim.Native.Nat.{ℕ, ◌+◌, ◌*◌, ◌^◌, ◌<◌}
use lib.ListN.{take}
use Rattle.limbs.specs.Limbs.{over, value}
use Rattle.montgomery.proofs.montgomery.Given as goal

abbrev pub invariant-loop-x : goal.invariant-loop-x
invariant-loop-x l =
    (over l.t l.top < 2 * value l.m) × (s : ℕ) × (4294967296 ^ l.x-index * over l.t l.top ≡ value (take l.x-index l.a) * value l.b + s * value l.m)
