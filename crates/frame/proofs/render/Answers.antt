-- `frame::render` meets its contract: head, identifier and flags byte are put one after the other.
use mathlib.Core.Path.{◌≡◌}
use lib.ListN.{length}
use Rattle.frame.proofs.Rendered.{left_out, with_flags}
use borrow.Author.Rules.{rules}
use Rattle.frame.proofs.render.Goals as goal

pub returns-in-None : goal.returns-in-None
returns-in-None c =
    let none = c.in-None.is in
    let sized : length c.args.id ≡ 20 = search rules in
    let put = rw (c.length_byte-size.ensures, c.kind_byte-kind.ensures, none) at c.put.ensures in
    rw none (left_out c.args.id c.args.on sized c.args.answer.now _ _ put c.put-2.ensures)

pub returns-in-Some : goal.returns-in-Some
returns-in-Some c =
    let sized : length c.args.id ≡ 20 = search rules in
    let put = rw (c.length_byte-size.ensures, c.kind_byte-kind.ensures, c.in-Some.is) at c.put.ensures in
    rw c.in-Some.is
    (with_flags c.args.id c.args.on sized c.args.answer.now _ _ c.in-Some.byte _ put c.put-2.ensures
    c.put-in-Some.ensures)
