-- `printing::malformed` meets its contract: the number behind a text.
use Rattle.printing.specs.Texts.{malformed_text}
use Rattle.printing.proofs.malformed.Goals as goal

pub returns : goal.returns
unfolding malformed_text
returns c = c.decimal_line.ensures
