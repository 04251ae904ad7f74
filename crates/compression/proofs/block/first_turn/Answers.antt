-- `compression::block::first_turn` takes a turn with a word of the block.
use Rattle.message_schedule.proofs.Window.{made_first}
use Rattle.compression.proofs.Turns.{taken_one}
use Rattle.compression.proofs.block.first_turn.Goals as goal

pub returns : goal.returns
returns c = λ constant.
    let a = c.args in
    taken_one a.place _ a.k a.w.now a.w.now a.v c.turn.result (made_first a.place a.w.now c.requires) constant c.turn.ensures
