-- `account_keys::used` meets its contract: the key at the place comes first, and the owner is followed.
use mathlib.Core.Path.{ap, ◌∙◌}
use native.Mathlib.Omega.{arith}
use lib.ListN.{length}
use Rattle.unit.specs.WellFormed.{held_keys}
use Rattle.unit.proofs.Lines.{accounts_lines, held_count, key_length_lem}
use Rattle.account_keys.proofs.Order.{used_place}
use Rattle.account_keys.proofs.used.Goals as goal

pub row-requires : goal.row-requires
row-requires c =
    let l = accounts_lines c.args.a c.requires.0 in
    (omega (arith, held_count c.args.a, c.requires.1), omega (arith, l.room, l.count))

pub array-key-requires : goal.array-key-requires
unfolding held_keys
array-key-requires c =
    (omega arith, ap length c.row.ensures ∙ key_length_lem c.args.a c.args.place (accounts_lines c.args.a c.requires.0) c.requires.1)

pub followed-requires : goal.followed-requires
followed-requires c =
    let l = accounts_lines c.args.a c.requires.0 in
    omega (arith, held_count c.args.a, c.requires.1, l.count)

pub key_first-requires : goal.key_first-requires
key_first-requires c =
    let l = accounts_lines c.args.a c.requires.0 in
    omega (arith, held_count c.args.a, c.requires.1, l.count)

pub returns : goal.returns
unfolding held_keys
returns c =
    let l = accounts_lines c.args.a c.requires.0 in
    let here = used_place c.args.a l c.args.place (omega (arith, held_count c.args.a, c.requires.1)) in
    rw (here, c.followed.ensures, c.key_first.ensures, c.array-key.ensures, c.row.ensures)
