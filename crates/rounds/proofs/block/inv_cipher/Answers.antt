-- `rounds::block::inv_cipher` is the full inverse rounds and the last one.
use mathlib.Core.Path.{sym, ◌∙◌}
use Rattle.words.specs.Words.{bytes_of}
use Rattle.steps.specs.Steps.{InvSubBytes, InvShiftRows}
use Rattle.rounds.proofs.Rounds.{inv_rounds_zero}
use Rattle.rounds.proofs.Keys.{first_key}
use Rattle.rounds.proofs.block.inv_cipher.Goals as goal

pub returns : goal.returns
returns c = λ w k.
    let a = c.args in
    let s = c.inv_full_rounds.result in
    c.inv_last_round.ensures
    ∙ first_key a.nr w a.keys.now (InvSubBytes (InvShiftRows s)) k c.requires.1.1
    ∙ sym (inv_rounds_zero (bytes_of w) s)
    ∙ c.inv_full_rounds.ensures w k
