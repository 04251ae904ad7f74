-- `columns::column::mixed` mixes a column in its word.
use Rattle.columns.proofs.Columns.{mixing_word}
use borrow.Author.Rules.{rules}
use Rattle.columns.proofs.column.mixed.Goals as goal

pub returns : goal.returns
returns c =
    let w = c.args.w in
    rw c.doubled-twice.ensures (mixing_word w (search rules))
