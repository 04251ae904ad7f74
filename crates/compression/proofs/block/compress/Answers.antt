-- `compression::block::compress` is the standard's: the 64 turns, and the sums.
use Rattle.compression.proofs.Turns.{◌▹◌, taken_all}
use Rattle.compression.proofs.block.compress.Goals as goal

pub returns : goal.returns
returns c =
    let all = c.first_turns-v16.ensures ▹ c.later_turns-v32.ensures ▹ c.later_turns-v48.ensures ▹ c.later_turns-v64.ensures in
    taken_all c.args.w.now c.later_turns-v64.new.w c.args.state c.later_turns-v64.result c.added.result c.requires all c.added.ensures
