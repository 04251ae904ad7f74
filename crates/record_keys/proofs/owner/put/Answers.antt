-- `owner::put` meets its contract, a case of the owner each.
use mathlib.Core.Path.{◌≡◌}
use Rattle.std.specs.Prelude.{None}
use Rattle.record_fields.specs.Part.{bytes_of}
use Rattle.record_parts.specs.Groups.{owner_fields}
use Rattle.record_keys.proofs.owner.put.Goals as goal

pub returns-in-None : goal.returns-in-None
unfolding bytes_of owner_fields
returns-in-None c =
    let is : c.args.o ≡ None = cc in
    rw is c.put_fields.ensures

pub returns-in-Some : goal.returns-in-Some
unfolding bytes_of owner_fields
returns-in-Some c =
    rw c.in-Some.is c.put_fields-in-Some.ensures
