use mathlib.Core.Path.{◌≡◌}
use lib.ListN.{drop}
use Rattle.limbs.specs.Limbs.{value}
use Rattle.limbs.proofs.plain.less.Given as goal

abbrev pub invariant-loop-i : goal.invariant-loop-i
invariant-loop-i l = value (drop l.i l.a) ≡ value (drop l.i l.b)
