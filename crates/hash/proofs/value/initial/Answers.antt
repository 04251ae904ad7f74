-- `hash::value::initial` is H⁰, by computation.
use mathlib.Core.Path.{refl}
use Rattle.hash.specs.Sha256.{H⁰}
use Rattle.hash.proofs.value.initial.Goals as goal

pub returns : goal.returns
unfolding H⁰
returns c = refl
