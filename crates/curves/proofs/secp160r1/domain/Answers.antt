-- `secp160r1::domain` meets its contract: computed tests.
use mathlib.Core.Path.{refl}
use Rattle.limbs.specs.Limbs.{over, value}
use Rattle.curve_laws.specs.Curves.{SECP160R1}
use Rattle.curves.proofs.Domains.{field_by, square_by, usable_by, matches}
use Rattle.curves.proofs.secp160r1.domain.Goals as goal

pub invariant_of-result : goal.invariant_of-result
unfolding over value
invariant_of-result c = record { field = field_by _ _ (tt, tt, tt, tt) }

pub invariant_of-result-2 : goal.invariant_of-result-2
unfolding over value
invariant_of-result-2 c = record { squared = square_by _ _ ((tt, tt), tt) }

pub invariant_of-result-3 : goal.invariant_of-result-3
unfolding over value
invariant_of-result-3 c = record { usable = usable_by _ _ _ _ _ (tt, (tt, tt), (tt, tt), tt, tt) }

pub returns : goal.returns
unfolding over value SECP160R1
returns c = matches SECP160R1 _ (tt, refl, tt, tt)
