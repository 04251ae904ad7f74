-- `key_blocks::block_at` meets its contract: a part of sixteen bytes, as an array.
use mathlib.Core.Path.{◌≡◌}
use Prim.Native.Nat.{◌+◌, ◌-◌}
use native.Mathlib.Omega.{arith}
use Rattle.key_blocks.proofs.block_at.Goals as goal

pub returns : goal.returns
returns c =
    let a = c.args in
    let e : a.at + 16 - a.at ≡ 16 = omega arith in
    rw e at c.array.ensures
