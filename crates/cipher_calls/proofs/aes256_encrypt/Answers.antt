-- `aes256_encrypt` meets its contract: a size that is wrong refuses, and the block is given.
use mathlib.Core.Path.{ap₂, ◌∙◌}
use borrow.Author.Rules.{rules}
use Rattle.primitives.specs.Standards.{AES256}
use Rattle.cipher_calls.specs.Calls.{encrypted256}
use Rattle.cipher_calls.proofs.Answered.{block_refused, block_given}
use Rattle.cipher_calls.proofs.aes256_encrypt.Goals as goal

pub returns-in_err-try_into : goal.returns-in_err-try_into
unfolding encrypted256
returns-in_err-try_into c =
    let a = c.args in
    let refused = c.from_residual in
    block_refused 32 a.key.now a.block.now (AES256 a.key.now a.block.now) a.answer.now refused.result refused.ensures.0
    (λ k b. c.in_err-try_into.ensures.1 k)

pub returns-in_err-try_into-2 : goal.returns-in_err-try_into-2
unfolding encrypted256
returns-in_err-try_into-2 c =
    let a = c.args in
    let refused = c.from_residual-in_err-try_into-2 in
    block_refused 32 a.key.now a.block.now (AES256 a.key.now a.block.now) a.answer.now refused.result refused.ensures.0
    (λ k b. c.in_err-try_into-2.ensures.1 b)

pub returns : goal.returns
unfolding encrypted256
returns c =
    let a = c.args in
    let done = c.encrypt256-done in
    let key = c.in_ok-try_into.ensures.1 in
    let block = c.in_ok-try_into-2.ensures.1 in
    block_given 32 a.key.now a.block.now (AES256 a.key.now a.block.now) a.answer.now done.result
    c.give.new.answer c.give.result key.long block.long (search rules)
    (done.ensures ∙ ap₂ AES256 key.same block.same)
    c.give.ensures
