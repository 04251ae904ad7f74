-- `desk::put_parts` meets its contract: the identifier, and three bytes right behind it.
use mathlib.Core.Path.{◌≡◌}
use borrow.Author.Rules.{rules}
use mathlib.Core.Bool.{cond}
use lib.ListN.{length}
use Rattle.desk.specs.Exported.{part_bytes, flags_shown, flags_byte}
use Rattle.desk.proofs.Exporting.{parts_put, bit_is, shown_is, byte_is}
use Rattle.desk.proofs.put_parts.Goals as goal

pub returns : goal.returns
unfolding part_bytes
returns c =
    let frame = c.args.frame in
    let sized : length frame.id ≡ 20 = search rules in
    let protection : c.from.result ≡ cond frame.on 1 0 = search (rules, bit_is frame.on) in
    let shown : c.from-2.result ≡ flags_shown frame.flags = search (rules, shown_is frame.flags) in
    let byte : c.unwrap_or.result ≡ flags_byte frame.flags = search (rules, byte_is frame.flags) in
    rw (← protection, ← shown, ← byte) (parts_put frame.id c.args.parts.now _ _ _ _ _ sized c.put.ensures c.put-2.ensures)
