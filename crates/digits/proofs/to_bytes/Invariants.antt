use mathlib.Core.Path.{◌≡◌}
use lib.ListN.{length, get_or}
use Rattle.limbs.specs.Limbs.{value}
use Rattle.laws.specs.Bytes.{big_endian}
use Rattle.laws.proofs.Tabulate.{filled_to}
use Rattle.digits.proofs.to_bytes.Given as goal

abbrev pub invariant-loop-i : goal.invariant-loop-i
invariant-loop-i l = l.out ≡ filled_to l.i (λ j. get_or (big_endian (length l.initial.out) (value l.t)) j 0) l.initial.out
