-- `identifier::of_key` meets its contract: what is worked out from r' of the key and the window.
use Rattle.identifier.proofs.of_key.Goals as goal

pub returns : goal.returns
returns c = rw c.pseudorandom.ensures at c.from_number.ensures
