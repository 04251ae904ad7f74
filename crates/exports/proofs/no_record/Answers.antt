-- `no_record` meets its contract: a refusal that spends no nonce writes nothing back.
use mathlib.Core.Bool.{false≢true}
use Rattle.exports.proofs.no_record.Goals as goal

pub finish-requires : goal.finish-requires
finish-requires c = λ w. absurd (false≢true (rw c.refuse.ensures.1 at w))
