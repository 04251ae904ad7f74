-- `well_formed::identity_legal` meets its contract: with a key the owner decides, and without one the bytes.
use mathlib.Core.Path.{◌≡◌, refl, ◌∙◌}
use mathlib.Core.Bool.{Bool, true, false}
use Rattle.std.specs.Prelude.{Some, None, is_some}
use Rattle.laws.proofs.Flags.{or_false}
use Rattle.unit.specs.Types.{Owner}
use Rattle.unit.specs.WellFormed.{owned, identity_legal}
use Rattle.well_formed.proofs.identity_legal.Goals as goal

some_owned : (o : Owner) → is_some o ≡ owned o
some_owned None = refl
some_owned (Some p) = refl

pub returns-then-k : goal.returns-then-k
unfolding identity_legal
returns-then-k c = rw (c.if-k.true, or_false (owned c.args.owner)) (c.is_some.ensures ∙ some_owned c.args.owner)

pub returns-else-k : goal.returns-else-k
unfolding identity_legal
returns-else-k c = rw c.if-k.false c.all_zero.ensures
