-- `hmac_sha256` meets its contract: a message in one part is the message.
use mathlib.Core.List.{append-nil}
use Rattle.hash_calls.proofs.hmac_sha256.Goals as goal

pub returns : goal.returns
returns c =
    let a = c.args in
    rw (append-nil a.message.now) at c.hmac_sha256_parts.ensures
