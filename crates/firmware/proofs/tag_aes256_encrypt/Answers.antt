-- `firmware::tag_aes256_encrypt` meets its contract: what the tag and the end of the call promise.
use mathlib.Core.Bool.{◌&&◌}
use lib.ListN.{length}
use lib.Dec.{eqb}
use borrow.Author.Tests.{eqb-true}
use Rattle.laws.proofs.Flags.{and_left}
use Rattle.primitives.proofs.Laws.{length-AES256}
use Rattle.cipher_calls.specs.Calls.{encrypted256}
use Rattle.primitives.specs.Standards.{AES256}
use Rattle.firmware.proofs.Exporting.{exported_digest}
use Rattle.firmware.proofs.tag_aes256_encrypt.Goals as goal

pub returns : goal.returns
unfolding encrypted256
returns c =
    exported_digest (eqb (length c.args.key.now) 32 && (eqb (length c.args.block.now) 16 && eqb (length c.args.answer.now) 16))
    (AES256 c.args.key.now c.args.block.now) (λ e. length-AES256 c.args.key.now c.args.block.now (eqb-true (length c.args.key.now) 32 (and_left _ _ e))) c.aes256_encrypt-end.ensures c.digest_code.ensures
