-- `printing::passed` meets its contract, a case of the reply each.
use mathlib.Core.Path.{refl}
use native.Mathlib.Omega.{arith}
use Rattle.printing.proofs.passed.Goals as goal

pub elapsed-requires : goal.elapsed-requires
elapsed-requires c =
    let within = rw c.in-Ok.is at c.requires.1.0 in
    (omega arith, (within, omega arith))

pub returns-in-Ok : goal.returns-in-Ok
returns-in-Ok c = (refl, rw c.in-Ok.is c.elapsed.ensures)

pub returns-in-Err : goal.returns-in-Err
returns-in-Err c = (refl, rw c.in-Err.is c.refused.ensures)
