-- `column_tables::column::mixed_column` adds the table's entries, each turned to its place.
use mathlib.Core.Path.{◌∙◌}
use Rattle.substitution.specs.Box.{SBox}
use Rattle.substitution.proofs.Bytes.{SBox-below}
use Rattle.column_tables.proofs.Turning.{column_mixed}
use borrow.Author.Rules.{rules}
use Rattle.column_tables.proofs.column.mixed_column.Goals as goal

pub returns : goal.returns
returns c =
    let a = c.args in
    c.added.ensures
    ∙ rw (c.requires a.a (search rules), c.requires a.b (search rules), c.requires a.c (search rules), c.requires a.d (search rules))
    (column_mixed (SBox a.a) (SBox a.b) (SBox a.c) (SBox a.d) (SBox-below a.a) (SBox-below a.b) (SBox-below a.c) (SBox-below a.d))
