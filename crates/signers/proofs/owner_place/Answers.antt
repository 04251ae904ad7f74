-- `signers::owner_place` meets its contract, a case of the owner each.
use mathlib.Core.Path.{◌≡◌, refl}
use mathlib.Core.Bool.{true}
use native.Mathlib.Omega.{arith}
use borrow.Author.Tests.{ltb-true}
use Rattle.std.specs.Prelude.{Some, None}
use Rattle.unit.specs.Types.{Owner}
use Rattle.unit.specs.WellFormed.{held_keys, owner_key, owner_legal}
use Rattle.unit.specs.declared.Accounts.{Accounts}
use Rattle.unit.proofs.Lines.{held_count}
use Rattle.authentication.specs.Promises.{Finds}
use Rattle.signers.proofs.owner_place.Goals as goal

owner_found : (a : Accounts) → owner_legal a ≡ true → (o : Owner) → a.owner ≡ o → Finds (owner_key a) (held_keys a) o
unfolding owner_key owner_legal
owner_found a legal None e = record { row_is = rw e; within = tt }
owner_found a legal (Some p) e =
    let below = ltb-true p a.count (rw e at legal) in
    record { row_is = rw e; within = omega (arith, held_count a) }

pub returns : goal.returns
returns c = owner_found c.args.a c.requires c.args.a.owner refl
