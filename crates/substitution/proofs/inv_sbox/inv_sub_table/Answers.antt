-- `substitution::inv_sbox::inv_sub_table` meets its contract: its table is the one that `Boxes` tests.
use Rattle.substitution.proofs.Boxes.{inv_sbox}
use Rattle.substitution.proofs.BoxLaws.{inv_sub_entry}
use Rattle.substitution.proofs.inv_sbox.inv_sub_table.Goals as goal

pub returns : goal.returns
unfolding inv_sbox
returns c = inv_sub_entry
