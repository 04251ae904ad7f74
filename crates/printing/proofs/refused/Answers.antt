-- `printing::refused` meets its contract: the refusal's number behind a text.
use Rattle.printing.specs.Texts.{refused_text}
use Rattle.printing.proofs.refused.Goals as goal

pub returns : goal.returns
unfolding refused_text
returns c = rw c.from.ensures at c.hex_line.ensures
