-- `hmac::key::value_of` gives the hash value after one block.
use mathlib.Core.Path.{◌≡◌, ap, ◌∙◌}
use lib.ListN.{length}
use Rattle.padding.proofs.Padded.{length_words}
use Rattle.hash.proofs.Hashed.{one_block}
use borrow.Author.Rules.{rules}
use Rattle.hmac.proofs.key.value_of.Goals as goal

pub compress-requires : goal.compress-requires
compress-requires c = ap length c.words_at.ensures ∙ length_words _ 0

pub returns : goal.returns
returns c =
    let block = c.args.block in
    let sixty-four : length block ≡ 64 = search rules in
    one_block block _ _ c.compress.result sixty-four c.words_at.ensures c.initial.ensures c.compress.ensures.0
