use mathlib.Core.Path.{◌≡◌}
use lib.ListN.{get_or}
use Rattle.laws.proofs.Tabulate.{filled_to}
use Rattle.substitution.proofs.lookup.look_up.Given as goal

abbrev pub invariant-loop-b : goal.invariant-loop-b
invariant-loop-b l = l.b-items ≡ filled_to l.b-index (λ j. get_or l.table (get_or l.initial.b-items j 0) 0) l.initial.b-items
