-- `tag_battery` meets its contract: what the tag and the end of the call promise.
use Rattle.tag.specs.Calls.{battery}
use Rattle.firmware.proofs.Exporting.{completes_whole, completes_exports}
use Rattle.firmware.proofs.tag_battery.Goals as goal

pub finish-requires : goal.finish-requires
finish-requires c =
    completes_whole (battery c.args.level) 0 c.args.bytes.now c.decode.ensures c.battery-step.ensures

pub returns : goal.returns
returns c =
    completes_exports (battery c.args.level) 0 c.args.bytes.now c.decode.ensures c.battery-step.ensures c.finish.ensures
