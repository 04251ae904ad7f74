-- `hmac::hmac` is HMAC under the key that it makes ready.
use Rattle.hmac.proofs.hmac.Goals as goal

pub returns : goal.returns
returns c = c.hmac_under.ensures _ c.ready_key.ensures
