-- `nonces::table` meets its contract: one right behind the other, they fill the room.
use mathlib.Core.Path.{◌≡◌, refl}
use native.Mathlib.Omega.{arith}
use lib.ListN.{length, replicate}
use Rattle.octets.proofs.Pasting.{puts_copy, puts_then, puts_all}
use Rattle.sizes.specs.Sizes.{nonce_size, nonces_room, earlier_room}
use borrow.Author.Rules.{rules}
use Rattle.nonces.proofs.table.Goals as goal

pub returns : goal.returns
returns c =
    let newest : length c.args.newest ≡ nonce_size = search rules in
    let earlier : length c.args.earlier ≡ earlier_room = search rules in
    let first = puts_copy {at = 0} {size = nonce_size} {bytes = c.args.newest} {before = replicate nonces_room 0} c.put.ensures newest in
    let second = puts_copy {at = nonce_size} {size = earlier_room} {bytes = c.args.earlier} {before = c.put.new.to} c.put-2.ensures earlier in
    (puts_all {size = nonces_room} (puts_then first second (omega arith)) refl, newest, earlier)
