-- `tag_sleep` meets its contract: what the tag promises of the unit that the record means, as one number.
use mathlib.Core.Path.{◌∙◌}
use native.Mathlib.Nat.{zero-add}
use Rattle.firmware.proofs.Sleeping.{exports_until, exports_refused}
use Rattle.firmware.proofs.tag_sleep.Goals as goal

pub returns-in-Ok : goal.returns-in-Ok
returns-in-Ok c =
    rw c.decode.ensures at (exports_until c.sleep_until.ensures c.in-Ok.is _ (c.with_tenths.ensures ∙ zero-add _))

pub returns-in-Err : goal.returns-in-Err
returns-in-Err c =
    rw c.decode.ensures at (exports_refused c.sleep_until.ensures c.in-Err.is _ c.refusal_code.ensures)
