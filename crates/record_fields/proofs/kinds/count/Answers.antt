-- `kinds::count` meets its contract: the number of its bytes.
use Rattle.record_fields.specs.Kinds.{count_size}
use Rattle.record_fields.proofs.Placing.{number_run}
use Rattle.record_fields.proofs.kinds.count.Goals as goal

pub returns : goal.returns
returns c =
    number_run c.args.from.now c.args.at count_size c.number-n.ensures
