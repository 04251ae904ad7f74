-- `printing::completed` meets its contract, a case of the reply each.
use mathlib.Core.Path.{refl}
use Rattle.printing.proofs.completed.Goals as goal

pub returns-in-Ok : goal.returns-in-Ok
returns-in-Ok c = (refl, rw c.in-Ok.is c.put.ensures)

pub returns-in-Err : goal.returns-in-Err
returns-in-Err c = (refl, rw c.in-Err.is c.refused.ensures)
