-- `columns::column::unmixed` mixes a column back in its word.
use mathlib.Core.Path.{◌∙◌}
use Rattle.columns.proofs.Columns.{unmixing_word}
use borrow.Author.Rules.{rules}
use Rattle.columns.proofs.column.unmixed.Goals as goal

pub returns : goal.returns
returns c =
    let w = c.args.w in
    c.mixed.ensures ∙ rw (c.doubled-four_times.ensures, c.doubled-twice.ensures) (unmixing_word w (search rules))
