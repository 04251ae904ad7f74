-- `tag_pairing` meets its contract: what the tag and the end of the call promise.
use mathlib.Core.Bool.{not}
use lib.Dec.{eqb}
use Rattle.tag.specs.Calls.{pairing}
use Rattle.firmware.proofs.Exporting.{completes_whole, completes_exports}
use Rattle.firmware.proofs.tag_pairing.Goals as goal

pub finish-requires : goal.finish-requires
finish-requires c =
    completes_whole (pairing (not (eqb c.args.on 0))) 0 c.args.bytes.now c.decode.ensures c.pairing-step.ensures

pub returns : goal.returns
returns c =
    completes_exports (pairing (not (eqb c.args.on 0))) 0 c.args.bytes.now c.decode.ensures c.pairing-step.ensures c.finish.ensures
