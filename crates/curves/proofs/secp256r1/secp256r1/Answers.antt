-- `secp256r1::secp256r1` meets its contract: the domain is that of the curve.
use mathlib.Core.Path.{refl}
use Rattle.curve_laws.specs.Curves.{SECP256R1}
use Rattle.curve_laws.proofs.Valid.{valid256}
use Rattle.curves.proofs.secp256r1.secp256r1.Goals as goal

pub returns : goal.returns
unfolding SECP256R1
returns c = c.times_base-r.ensures SECP256R1 valid256 refl c.domain.ensures
