-- `tag_frame` meets its contract: what the tag and the end of the call promise.
use lib.ListN.{length}
use Rattle.tag.specs.Calls.{frame}
use Rattle.firmware.proofs.Exporting.{answers_whole, answers_exports}
use Rattle.firmware.proofs.tag_frame.Goals as goal

pub finish-requires : goal.finish-requires
finish-requires c =
    answers_whole frame (length c.args.answer.now) c.args.bytes.now c.decode.ensures c.advertise-step.ensures

pub returns : goal.returns
returns c =
    answers_exports frame (length c.args.answer.now) c.args.bytes.now c.decode.ensures c.advertise-step.ensures c.finish.ensures
