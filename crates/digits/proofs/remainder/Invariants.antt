use mathlib.Core.Path.{◌≡◌}
use Prim.Native.Nat.{◌%◌}
use lib.ListN.{drop}
use Rattle.laws.specs.Bytes.{number_after}
use Rattle.limbs.specs.Limbs.{value, Below}
use Rattle.digits.proofs.remainder.Given as goal

abbrev pub invariant-loop-byte : goal.invariant-loop-byte
invariant-loop-byte l =
    Below l.t l.m × (number_after (value l.t) (drop l.byte-index l.bytes) % value l.m ≡ number_after (value l.initial.t) l.bytes % value l.m)
