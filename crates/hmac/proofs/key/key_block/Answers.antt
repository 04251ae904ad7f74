-- `hmac::key::key_block` takes a key of up to a block as it is, and the hash of a longer one.
use Rattle.hmac.proofs.Keys.{short_key, long_key}
use Rattle.hmac.proofs.key.key_block.Goals as goal

pub returns-then-key-le64 : goal.returns-then-key-le64
returns-then-key-le64 c = short_key _ c.filled.result c.if-key-le64.true c.filled.ensures

pub returns : goal.returns
returns c =
    long_key _ c.digest.result c.filled-2.result c.if-key-le64.false c.digest.ensures c.filled-2.ensures
