-- `records::rows` ends: the measure is what is left of the longest table, and each row takes a byte at least.
use Rattle.std.proofs.Common.{◌-◌}
use Rattle.records.proofs.rows.Given as goal

abbrev pub decreases-loop-at : goal.decreases-loop-at
decreases-loop-at g l = 16777216 - l.at
