-- `key_schedule::schedule::sub_word` looks up each byte.
use mathlib.Core.Path.{◌∙◌}
use borrow.Author.Rules.{rules}
use Rattle.key_schedule.proofs.schedule.sub_word.Goals as goal

pub returns : goal.returns
returns c =
    let a = c.args in
    c.word_of.ensures
    ∙ rw (c.requires a.a (search rules), c.requires a.b (search rules), c.requires a.c (search rules), c.requires a.d (search rules))
