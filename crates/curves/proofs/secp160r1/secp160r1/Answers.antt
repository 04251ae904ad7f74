-- `secp160r1::secp160r1` meets its contract: the domain is that of the curve.
use mathlib.Core.Path.{refl}
use Rattle.curve_laws.specs.Curves.{SECP160R1}
use Rattle.curve_laws.proofs.Valid.{valid160}
use Rattle.curves.proofs.secp160r1.secp160r1.Goals as goal

pub returns : goal.returns
unfolding SECP160R1
returns c = c.times_base-r.ensures SECP160R1 valid160 refl c.domain.ensures
