use mathlib.Core.Path.{◌≡◌}
use lib.ListN.{drop}
use Rattle.tables.specs.Rows.{rows, among}
use Rattle.tables.proofs.among.Given as goal

abbrev pub invariant-loop-i : goal.invariant-loop-i
invariant-loop-i l = among l.bytes (drop l.from (rows l.width l.count l.table)) ≡ among l.bytes (drop l.i (rows l.width l.count l.table))
