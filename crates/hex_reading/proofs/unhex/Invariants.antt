use Prim.Native.Nat.{◌*◌}
use mathlib.Core.Path.{◌≡◌}
use lib.ListN.{length, take, drop}
use Rattle.hex_reading.specs.Hex.{bytes}
use Rattle.hex_reading.proofs.Unhexed.{joined}
use Rattle.hex_reading.proofs.unhex.Given as goal

abbrev pub invariant-loop-i : goal.invariant-loop-i
invariant-loop-i l =
    (length l.into ≡ length l.initial.into) × (bytes l.text ≡ joined (take l.i l.into) (bytes (drop (2 * l.i) l.text)))
