-- `hmac::ready_key` gives the hash values after the key's block under each mask.
use Rattle.hmac.specs.Hmac.{keyed_by}
use Rattle.hmac.proofs.ready_key.Goals as goal

pub returns : goal.returns
unfolding keyed_by
returns c = cc
