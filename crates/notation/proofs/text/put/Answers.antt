-- `notation::text::put` meets its contract.
use mathlib.Core.Path.{refl}
use Rattle.notation.specs.Written.{placed}
use Rattle.notation.proofs.text.put.Goals as goal

pub returns : goal.returns
unfolding placed
returns c = record { next_is = refl; bytes_are = c.put.ensures }
