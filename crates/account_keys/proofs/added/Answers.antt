-- `account_keys::added` meets its contract: the new key first, in the place that is found for it; the count is one of a table's.
use native.Mathlib.Omega.{arith}
use Rattle.unit.proofs.Lines.{accounts_lines}
use Rattle.account_keys.proofs.added.Goals as goal

pub overflow_add-a : goal.overflow_add-a
overflow_add-a c = omega (arith, (accounts_lines c.args.a c.requires.0).count)
