-- `words::bytes_of` gives the four bytes of a word: they are the library's.
use mathlib.Core.Path.{◌∙◌}
use Rattle.laws.proofs.BigEndian.{four_bytes}
use Rattle.words.proofs.bytes_of.Goals as goal

pub returns : goal.returns
returns c = c.to_be_bytes.ensures ∙ four_bytes c.args.w
