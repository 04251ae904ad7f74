use mathlib.Core.Path.{◌≡◌}
use Prim.Native.Nat.{◌-◌}
use lib.ListN.{length}
use Rattle.laws.specs.Bytes.{big_endian}
use Rattle.octets.specs.Put.{pasted}
use Rattle.octets.proofs.put_number.Given as goal

abbrev pub invariant-loop-place : goal.invariant-loop-place
invariant-loop-place l =
    (length l.to ≡ length l.initial.to) × (pasted l.to l.at (big_endian (l.place - l.at) l.rest) ≡ pasted l.initial.to l.at (big_endian l.width l.n))
