-- `substitution::sbox::sub_table` meets its contract: its table is the one that `Boxes` tests.
use Rattle.substitution.proofs.Boxes.{sbox}
use Rattle.substitution.proofs.BoxLaws.{sub_entry}
use Rattle.substitution.proofs.sbox.sub_table.Goals as goal

pub returns : goal.returns
unfolding sbox
returns c = sub_entry
