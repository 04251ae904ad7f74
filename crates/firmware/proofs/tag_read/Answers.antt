-- `tag_read` meets its contract: what the tag and the end of the call promise.
use lib.ListN.{length}
use Rattle.tag.specs.Calls.{read}
use Rattle.firmware.proofs.Exporting.{answers_whole, answers_exports}
use Rattle.firmware.proofs.tag_read.Goals as goal

pub finish-requires : goal.finish-requires
finish-requires c =
    answers_whole (read c.args.nonce.now) (length c.args.answer.now) c.args.bytes.now c.decode.ensures c.read-step.ensures

pub returns : goal.returns
returns c =
    answers_exports (read c.args.nonce.now) (length c.args.answer.now) c.args.bytes.now c.decode.ensures c.read-step.ensures c.finish.ensures
