use mathlib.Core.Path.{◌≡◌}
use Prim.Native.Nat.{◌+◌, ◌-◌, ◌*◌, ◌/◌, ◌%◌, ◌^◌}
use Rattle.limbs.specs.Limbs.{value, Below}
use Rattle.digits.proofs.shift_in.Given as goal

abbrev pub invariant-loop-place : goal.invariant-loop-place
invariant-loop-place l =
    Below l.t l.m × (value l.t ≡ (value l.initial.t * 2 ^ (8 - l.place) + l.byte / 2 ^ l.place) % value l.m)
