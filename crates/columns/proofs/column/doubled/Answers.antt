-- `columns::column::doubled` doubles each byte: at the powers of 2, and so everywhere.
use borrow.Author.Rules.{rules}
use Rattle.columns.proofs.Columns.{doubled_word}
use Rattle.columns.proofs.column.doubled.Goals as goal

pub returns : goal.returns
returns c = doubled_word c.args.w (search rules)
