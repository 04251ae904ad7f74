-- `firmware::tag_aes128_encrypt` meets its contract: what the tag and the end of the call promise.
use mathlib.Core.Bool.{◌&&◌}
use lib.ListN.{length}
use lib.Dec.{eqb}
use borrow.Author.Tests.{eqb-true}
use Rattle.laws.proofs.Flags.{and_left}
use Rattle.primitives.proofs.Laws.{length-AES128}
use Rattle.cipher_calls.specs.Calls.{encrypted}
use Rattle.primitives.specs.Standards.{AES128}
use Rattle.firmware.proofs.Exporting.{exported_digest}
use Rattle.firmware.proofs.tag_aes128_encrypt.Goals as goal

pub returns : goal.returns
unfolding encrypted
returns c =
    exported_digest (eqb (length c.args.key.now) 16 && (eqb (length c.args.block.now) 16 && eqb (length c.args.answer.now) 16))
    (AES128 c.args.key.now c.args.block.now) (λ e. length-AES128 c.args.key.now c.args.block.now (eqb-true (length c.args.key.now) 16 (and_left _ _ e))) c.aes128_encrypt-end.ensures c.digest_code.ensures
