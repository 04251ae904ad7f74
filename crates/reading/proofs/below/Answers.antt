-- `reading::below` meets its contract: a number from 1 to 2^31, taken from zero.
use mathlib.Core.Path.{sym}
use native.Mathlib.Omega.{arith}
use borrow.Author.Tests.{le-ltb}
use Rattle.reading.specs.Reading.{negative}
use Rattle.reading.proofs.Numerals.{negative_fits, negative_is, not_negative}
use Rattle.reading.proofs.below.Goals as goal

pub returns-then-n-eq0 : goal.returns-then-n-eq0
unfolding negative
returns-then-n-eq0 c = simp (le-ltb 0 c.args.n (omega arith))

pub returns-then-n-gt2147483648 : goal.returns-then-n-gt2147483648
returns-then-n-gt2147483648 c = sym (not_negative c.args.n (omega arith))

pub overflow_sub-result-2 : goal.overflow_sub-result-2
overflow_sub-result-2 c = negative_fits c.args.n (omega arith) (omega arith)

pub returns : goal.returns
returns c = negative_is c.args.n (omega arith) (omega arith)
