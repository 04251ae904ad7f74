-- `steps::forward::shift_rows` meets its contract: antt computes the definition's place for each of the 16.
use mathlib.Core.Path.{refl}
use Rattle.laws.specs.Bytes.{tabulate}
use Rattle.steps.specs.Steps.{state_of, ShiftRows}
use Rattle.steps.proofs.forward.shift_rows.Goals as goal

pub returns : goal.returns
unfolding tabulate state_of ShiftRows
returns c = refl
