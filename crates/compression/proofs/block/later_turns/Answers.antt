-- `compression::block::later_turns` takes the sixteen turns of pass P, from turn 16 P on.
use Rattle.std.proofs.Common.{◌*◌, refl, add-zero}
use Rattle.compression.specs.Constants.{K}
use Rattle.compression.proofs.Turns.{sixteen}
use Rattle.compression.proofs.block.later_turns.Goals as goal

pub returns : goal.returns
unfolding K
returns g c =
    let later = c.requires.0 in
    let below = c.requires.1 in
    sixteen (16 * g.row.P)
    (c.later_turn-v1.ensures g.row.P later below (rw add-zero))
    (c.later_turn-v2.ensures g.row.P later below refl)
    (c.later_turn-v3.ensures g.row.P later below refl)
    (c.later_turn-v4.ensures g.row.P later below refl)
    (c.later_turn-v5.ensures g.row.P later below refl)
    (c.later_turn-v6.ensures g.row.P later below refl)
    (c.later_turn-v7.ensures g.row.P later below refl)
    (c.later_turn-v8.ensures g.row.P later below refl)
    (c.later_turn-v9.ensures g.row.P later below refl)
    (c.later_turn-v10.ensures g.row.P later below refl)
    (c.later_turn-v11.ensures g.row.P later below refl)
    (c.later_turn-v12.ensures g.row.P later below refl)
    (c.later_turn-v13.ensures g.row.P later below refl)
    (c.later_turn-v14.ensures g.row.P later below refl)
    (c.later_turn-v15.ensures g.row.P later below refl)
    (c.later_turn.ensures g.row.P later below refl)
