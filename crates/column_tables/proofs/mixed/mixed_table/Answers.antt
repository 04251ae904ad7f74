-- `column_tables::mixed::mixed_table` meets its contract: its table is the one that `Tables` tests.
use Rattle.column_tables.proofs.Tables.{mixed_table}
use Rattle.column_tables.proofs.TableLaws.{mixed_entry}
use Rattle.column_tables.proofs.mixed.mixed_table.Goals as goal

pub returns : goal.returns
unfolding mixed_table
returns c = mixed_entry
