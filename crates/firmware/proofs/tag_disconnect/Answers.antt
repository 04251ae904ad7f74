-- `tag_disconnect` meets its contract: what the tag and the end of the call promise.
use Rattle.tag.specs.Calls.{disconnect}
use Rattle.firmware.proofs.Exporting.{completes_whole, completes_exports}
use Rattle.firmware.proofs.tag_disconnect.Goals as goal

pub finish-requires : goal.finish-requires
finish-requires c =
    completes_whole disconnect 0 c.args.bytes.now c.decode.ensures c.disconnect-step.ensures

pub returns : goal.returns
returns c =
    completes_exports disconnect 0 c.args.bytes.now c.decode.ensures c.disconnect-step.ensures c.finish.ensures
