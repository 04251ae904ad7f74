-- `signing::first_bytes` meets its contract: a part of eight bytes as an array.
use mathlib.Core.Path.{◌≡◌, sym}
use native.Mathlib.Omega.{arith}
use lib.ListN.{length}
use lib.Seq.{length-take-le}
use borrow.Author.Rules.{rules}
use Rattle.wire.proofs.signing.first_bytes.Goals as goal

pub slice_bounds-array-end : goal.slice_bounds-array-end
slice_bounds-array-end c =
    let long : length c.args.d ≡ 32 = search rules in
    sym (length-take-le 8 c.args.d (omega arith))

pub array-requires : goal.array-requires
array-requires c =
    let long : length c.args.d ≡ 32 = search rules in
    (omega arith, length-take-le 8 c.args.d (omega arith))
