use Prim.Native.Nat.{◌≤◌}
use lib.ListN.{length}
use mathlib.Core.Path.{◌≡◌}
use Rattle.notation.specs.Text.{decimal}
use Rattle.notation.proofs.Decimal.{digits_from}
use Rattle.notation.proofs.text.decimal.Given as goal

abbrev pub invariant-loop-rest : goal.invariant-loop-rest
invariant-loop-rest l = (l.first ≤ 9) × ((length l.digits ≡ 10) × (decimal l.n ≡ digits_from l.first l.rest l.digits))

abbrev pub decreases-loop-rest : goal.decreases-loop-rest
decreases-loop-rest l = l.first
