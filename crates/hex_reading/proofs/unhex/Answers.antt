-- `hex_reading::unhex` meets its contract: the bytes read so far stand in front of what the rest of the text gives.
use mathlib.Core.Path.{◌∙◌}
use native.Mathlib.Omega.{arith}
use borrow.Author.Rules.{rules}
use Rattle.hex_reading.proofs.Unhexed.{joined_more}
use Rattle.hex_reading.proofs.unhex.Goals as goal

pub loop-i-preserved : goal.loop-i-preserved
loop-i-preserved c =
    let turn = c.loop-i in
    (search rules, turn.invariant.1 ∙ joined_more c.args.text.now turn.into turn.i c.in_ok-into.field-0 (omega arith) (omega arith) (search rules))
