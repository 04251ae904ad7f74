use mathlib.Core.Path.{◌≡◌}
use lib.ListN.{length}
use Rattle.laws.proofs.Tabulate.{filled_to}
use Rattle.hmac.proofs.Keys as keys
use Rattle.hmac.proofs.key.masked.Given as goal

abbrev pub invariant-loop-b : goal.invariant-loop-b
invariant-loop-b l = (length l.initial.b-items ≡ 64) × (l.b-items ≡ filled_to l.b-index (keys.mask l.initial.b-items l.mask) l.initial.b-items)
