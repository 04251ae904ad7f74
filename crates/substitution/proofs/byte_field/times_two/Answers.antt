-- `substitution::byte_field::times_two` meets its contract: the shift of a byte, with the modulus taken off, is its product with 2.
--
use borrow.Author.Rules.{rules}
use mathlib.Core.Path.{sym}
use Rattle.substitution.proofs.Linear.{two_low, two_high}
use Rattle.substitution.proofs.byte_field.times_two.Goals as goal

pub returns-then-b-lt128 : goal.returns-then-b-lt128
returns-then-b-lt128 c = sym (two_low c.args.b (search rules))

pub returns-else-b-lt128 : goal.returns-else-b-lt128
returns-else-b-lt128 c = sym (two_high c.args.b (search rules) (search rules))
