use Prim.Native.Nat.{◌+◌, ◌*◌}
use mathlib.Core.Path.{◌≡◌}
use lib.ListN.{length, take}
use Rattle.notation.specs.Text.{hex}
use Rattle.notation.specs.Written.{placed}
use Rattle.notation.proofs.text.hex.Given as goal

abbrev pub invariant-loop-b : goal.invariant-loop-b
invariant-loop-b l =
    (l.next ≡ l.at + 2 * l.b-index) × (length l.out ≡ length l.initial.out) × (l.out ≡ placed l.at (hex (take l.b-index l.bytes)) l.initial.out)
