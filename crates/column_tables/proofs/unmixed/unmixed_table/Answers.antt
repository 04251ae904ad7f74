-- `column_tables::unmixed::unmixed_table` meets its contract: its table is the one that `Tables` tests.
use Rattle.column_tables.proofs.Tables.{unmixed_table}
use Rattle.column_tables.proofs.TableLaws.{unmixed_entry}
use Rattle.column_tables.proofs.unmixed.unmixed_table.Goals as goal

pub returns : goal.returns
unfolding unmixed_table
returns c = unmixed_entry
