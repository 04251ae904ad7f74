-- `unit::mask::ringable_mask` meets its contract: each mask is computed, and its ones are counted.
use mathlib.Core.Path.{◌≡◌, refl}
use native.Mathlib.Omega.{arith}
use lib.Count.{ones}
use Rattle.unit.proofs.mask.ringable_mask.Goals as goal

pub returns-in-0 : goal.returns-in-0
unfolding ones
returns-in-0 c = rw c.in-0.is (record { mask_is = refl; ones_are = refl })

pub returns-in-1 : goal.returns-in-1
unfolding ones
returns-in-1 c = rw c.in-1.is (record { mask_is = refl; ones_are = refl })

pub returns-in-2 : goal.returns-in-2
unfolding ones
returns-in-2 c = rw c.in-2.is (record { mask_is = refl; ones_are = refl })

pub returns-in_default : goal.returns-in_default
unfolding ones
returns-in_default c =
    let three : c.args.components ≡ 3 = omega arith in
    rw three (record { mask_is = refl; ones_are = refl })
