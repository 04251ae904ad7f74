-- `words::word_of` gives the number of four bytes: it is the library's.
use mathlib.Core.Path.{◌∙◌}
use Rattle.laws.proofs.BigEndian.{of_four}
use Rattle.words.proofs.word_of.Goals as goal

pub returns : goal.returns
returns c = let a = c.args in c.from_be_bytes.ensures ∙ of_four a.a a.b a.c a.d
