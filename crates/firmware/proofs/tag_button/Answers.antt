-- `tag_button` meets its contract: what the tag and the end of the call promise.
use lib.ListN.{length}
use Rattle.tag.specs.Calls.{button}
use Rattle.firmware.proofs.Exporting.{answers_whole, answers_exports}
use Rattle.firmware.proofs.tag_button.Goals as goal

pub finish-requires : goal.finish-requires
finish-requires c =
    answers_whole button (length c.args.answer.now) c.args.bytes.now c.decode.ensures c.button-step.ensures

pub returns : goal.returns
returns c =
    answers_exports button (length c.args.answer.now) c.args.bytes.now c.decode.ensures c.button-step.ensures c.finish.ensures
