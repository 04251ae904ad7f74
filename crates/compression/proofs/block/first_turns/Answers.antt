-- `compression::block::first_turns` takes the sixteen turns from turn 0 on.
use Rattle.std.proofs.Common.{refl}
use Rattle.compression.specs.Constants.{K}
use Rattle.compression.proofs.Turns.{sixteen}
use Rattle.compression.proofs.block.first_turns.Goals as goal

pub returns : goal.returns
unfolding K
returns c =
    sixteen 0
    (c.first_turn-v1.ensures refl)
    (c.first_turn-v2.ensures refl)
    (c.first_turn-v3.ensures refl)
    (c.first_turn-v4.ensures refl)
    (c.first_turn-v5.ensures refl)
    (c.first_turn-v6.ensures refl)
    (c.first_turn-v7.ensures refl)
    (c.first_turn-v8.ensures refl)
    (c.first_turn-v9.ensures refl)
    (c.first_turn-v10.ensures refl)
    (c.first_turn-v11.ensures refl)
    (c.first_turn-v12.ensures refl)
    (c.first_turn-v13.ensures refl)
    (c.first_turn-v14.ensures refl)
    (c.first_turn-v15.ensures refl)
    (c.first_turn.ensures refl)
