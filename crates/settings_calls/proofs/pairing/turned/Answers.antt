-- `settings_calls::pairing::turned` meets its contract: one field is changed.
use Rattle.unit.proofs.Ends.{done_completes}
use Rattle.settings_calls.proofs.pairing.turned.Goals as goal

pub returns : goal.returns
returns c = done_completes c.accept.ensures
