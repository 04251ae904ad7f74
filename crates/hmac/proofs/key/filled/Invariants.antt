use mathlib.Core.Path.{◌≡◌}
use lib.ListN.{get_or}
use Rattle.laws.proofs.Tabulate.{filled_to}
use Rattle.hmac.proofs.key.filled.Given as goal

abbrev pub invariant-loop-i : goal.invariant-loop-i
invariant-loop-i l = l.block ≡ filled_to l.i (λ j. get_or l.key j 0) l.initial.block
