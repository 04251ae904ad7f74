-- `firmware::tag_hmac_sha256` meets its contract: what the tag and the end of the call promise.
use mathlib.Core.Bool.{◌&&◌}
use lib.ListN.{length}
use lib.Dec.{eqb, leb}
use Rattle.primitives.proofs.Laws.{length-HMAC}
use Rattle.hash_calls.specs.Calls.{authenticated}
use Rattle.primitives.specs.Standards.{HMAC}
use Rattle.firmware.proofs.Exporting.{exported_digest}
use Rattle.firmware.proofs.tag_hmac_sha256.Goals as goal

pub returns : goal.returns
unfolding authenticated
returns c =
    exported_digest (leb (length c.args.key.now) 65535 && (leb (length c.args.message.now) 65535 && eqb (length c.args.answer.now) 32))
    (HMAC c.args.key.now c.args.message.now) (λ _. length-HMAC c.args.key.now c.args.message.now) c.hmac_sha256-end.ensures c.digest_code.ensures
