-- `session_ends::begin` meets its contract.
use mathlib.Core.Path.{ap}
use native.Mathlib.Omega.{arith}
use Rattle.unit.specs.declared.TagUnit.{TagUnit}
use Rattle.session.specs.Feeding.{reading}
use Rattle.lines.specs.Lines.{inside, power}
use Rattle.session_ends.proofs.begin.Goals as goal

pub returns : goal.returns
returns c =
    (ap (λ (u : TagUnit). reading (inside power) 1 u _) c.no_unit.ensures, record { bounded_run = record { numbered = omega arith; within_kept = omega arith }; within_line = omega arith })
