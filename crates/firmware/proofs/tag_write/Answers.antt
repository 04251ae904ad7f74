-- `tag_write` meets its contract: what the tag and the end of the call promise.
use lib.ListN.{length}
use Rattle.tag.specs.Calls.{write}
use Rattle.firmware.proofs.Exporting.{answers_whole, answers_exports}
use Rattle.firmware.proofs.tag_write.Goals as goal

pub finish-requires : goal.finish-requires
finish-requires c =
    answers_whole (write (record { bytes = c.args.request.now; reach = c.args.reach })) (length c.args.answer.now) c.args.bytes.now c.decode.ensures c.write-step.ensures

pub returns : goal.returns
returns c =
    answers_exports (write (record { bytes = c.args.request.now; reach = c.args.reach })) (length c.args.answer.now) c.args.bytes.now c.decode.ensures c.write-step.ensures c.finish.ensures
