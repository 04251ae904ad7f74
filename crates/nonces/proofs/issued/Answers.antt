-- `nonces::issued` meets its contract: the front of the table is what stays behind the new nonce.
use mathlib.Core.Path.{◌≡◌, sym}
use native.Mathlib.Omega.{arith}
use lib.ListN.{length}
use lib.Seq.{length-take-le}
use Rattle.sizes.specs.Sizes.{nonces_room, earlier_room}
use borrow.Author.Rules.{rules}
use Rattle.nonces.proofs.issued.Goals as goal

pub slice_bounds-array-end : goal.slice_bounds-array-end
slice_bounds-array-end c =
    let all : length c.table-all.result ≡ nonces_room = search rules in
    sym (length-take-le earlier_room c.table-all.result (omega arith))

pub array-requires : goal.array-requires
array-requires c =
    let all : length c.table-all.result ≡ nonces_room = search rules in
    (omega arith, length-take-le earlier_room c.table-all.result (omega arith))
