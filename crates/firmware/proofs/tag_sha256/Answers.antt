-- `firmware::tag_sha256` meets its contract: what the tag and the end of the call promise.
use mathlib.Core.Bool.{◌&&◌}
use lib.ListN.{length}
use lib.Dec.{eqb, leb}
use Rattle.primitives.proofs.Laws.{length-SHA256}
use Rattle.hash_calls.specs.Calls.{hashed}
use Rattle.primitives.specs.Standards.{SHA256}
use Rattle.firmware.proofs.Exporting.{exported_digest}
use Rattle.firmware.proofs.tag_sha256.Goals as goal

pub returns : goal.returns
unfolding hashed
returns c =
    exported_digest (leb (length c.args.message.now) 65535 && eqb (length c.args.answer.now) 32)
    (SHA256 c.args.message.now) (λ _. length-SHA256 c.args.message.now) c.sha256-end.ensures c.digest_code.ensures
