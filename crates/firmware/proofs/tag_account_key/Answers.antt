-- `tag_account_key` meets its contract: what the tag and the end of the call promise.
use Rattle.tag.specs.Calls.{account_key}
use Rattle.firmware.proofs.Exporting.{completes_whole, completes_exports}
use Rattle.firmware.proofs.tag_account_key.Goals as goal

pub finish-requires : goal.finish-requires
finish-requires c =
    completes_whole (account_key c.args.key.now) 0 c.args.bytes.now c.decode.ensures c.account_key-step.ensures

pub returns : goal.returns
returns c =
    completes_exports (account_key c.args.key.now) 0 c.args.bytes.now c.decode.ensures c.account_key-step.ensures c.finish.ensures
