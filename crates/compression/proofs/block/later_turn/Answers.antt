-- `compression::block::later_turn` takes a turn with the word that it makes.
use Rattle.compression.proofs.Turns.{taken_one}
use Rattle.compression.proofs.block.later_turn.Goals as goal

pub returns : goal.returns
returns c = λ p later below constant.
    let word = c.next_word-word in
    let a = c.args in
    taken_one _ word.result a.k _ _ a.v c.turn.result (word.ensures p later below) constant c.turn.ensures
