-- `hash::digest_of_value` is SHA-256 of a block and a hash value's bytes: one block more.
use mathlib.Core.Path.{◌∙◌}
use Rattle.hash.proofs.Ending.{after_block}
use Rattle.hash.proofs.digest_of_value.Goals as goal

pub returns : goal.returns
returns c = λ p n e.
    let words = c.after_block-words in
    let a = c.args in
    c.bytes.ensures ∙ after_block p words.result a.v a.start c.compress.result n e words.ensures c.compress.ensures.0
