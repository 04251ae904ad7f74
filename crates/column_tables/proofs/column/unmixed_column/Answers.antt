-- `column_tables::column::unmixed_column` adds the table's entries, each turned to its place.
use mathlib.Core.Path.{◌∙◌}
use Rattle.substitution.specs.Box.{InvSBox}
use Rattle.substitution.proofs.Bytes.{InvSBox-below}
use Rattle.column_tables.proofs.Turning.{column_unmixed}
use borrow.Author.Rules.{rules}
use Rattle.column_tables.proofs.column.unmixed_column.Goals as goal

pub returns : goal.returns
returns c =
    let a = c.args in
    c.added.ensures
    ∙ rw (c.requires a.a (search rules), c.requires a.b (search rules), c.requires a.c (search rules), c.requires a.d (search rules))
    (column_unmixed (InvSBox a.a) (InvSBox a.b) (InvSBox a.c) (InvSBox a.d) (InvSBox-below a.a) (InvSBox-below a.b) (InvSBox-below a.c) (InvSBox-below a.d))
