-- `signers::key_at` meets its contract: the row at a place, as an array.
use mathlib.Core.Path.{ap, ◌∙◌}
use native.Mathlib.Omega.{arith}
use lib.ListN.{length}
use Rattle.unit.specs.WellFormed.{held_keys}
use Rattle.unit.proofs.Lines.{accounts_lines, held_count, key_length_lem}
use Rattle.signers.proofs.key_at.Goals as goal

pub row-requires : goal.row-requires
row-requires c =
    let l = accounts_lines c.args.a c.requires.0 in
    (omega (arith, held_count c.args.a, c.requires.1), omega (arith, l.room, l.count))

pub array-requires : goal.array-requires
unfolding held_keys
array-requires c =
    (omega arith, ap length c.row.ensures ∙ key_length_lem c.args.a c.args.place (accounts_lines c.args.a c.requires.0) c.requires.1)

pub returns : goal.returns
unfolding held_keys
returns c = c.array.ensures ∙ c.row.ensures
