-- `kinds::tenths` meets its contract: the number of its bytes.
use native.Mathlib.Omega.{arith}
use Prim.Native.Nat.{◌^◌, ◌<◌}
use Rattle.record_fields.specs.Kinds.{tenths_size}
use Rattle.record_fields.proofs.Placing.{number_run, number_small}
use Rattle.record_fields.proofs.kinds.tenths.Goals as goal

pub overflow_cast-result : goal.overflow_cast-result
overflow_cast-result c =
    let small : c.number-n.result < 256 ^ tenths_size = number_small c.args.from.now c.args.at tenths_size c.requires c.number-n.ensures in
    omega arith

pub returns : goal.returns
returns c =
    number_run c.args.from.now c.args.at tenths_size c.number-n.ensures
