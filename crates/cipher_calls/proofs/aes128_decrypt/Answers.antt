-- `aes128_decrypt` meets its contract: a size that is wrong refuses, and the block is given.
use mathlib.Core.Path.{ap₂, ◌∙◌}
use borrow.Author.Rules.{rules}
use Rattle.primitives.specs.Standards.{InvAES128}
use Rattle.cipher_calls.specs.Calls.{decrypted}
use Rattle.cipher_calls.proofs.Answered.{block_refused, block_given}
use Rattle.cipher_calls.proofs.aes128_decrypt.Goals as goal

pub returns-in_err-try_into : goal.returns-in_err-try_into
unfolding decrypted
returns-in_err-try_into c =
    let a = c.args in
    let refused = c.from_residual in
    block_refused 16 a.key.now a.block.now (InvAES128 a.key.now a.block.now) a.answer.now refused.result refused.ensures.0
    (λ k b. c.in_err-try_into.ensures.1 k)

pub returns-in_err-try_into-2 : goal.returns-in_err-try_into-2
unfolding decrypted
returns-in_err-try_into-2 c =
    let a = c.args in
    let refused = c.from_residual-in_err-try_into-2 in
    block_refused 16 a.key.now a.block.now (InvAES128 a.key.now a.block.now) a.answer.now refused.result refused.ensures.0
    (λ k b. c.in_err-try_into-2.ensures.1 b)

pub returns : goal.returns
unfolding decrypted
returns c =
    let a = c.args in
    let done = c.decrypt-done in
    let key = c.in_ok-try_into.ensures.1 in
    let block = c.in_ok-try_into-2.ensures.1 in
    block_given 16 a.key.now a.block.now (InvAES128 a.key.now a.block.now) a.answer.now done.result
    c.give.new.answer c.give.result key.long block.long (search rules)
    (done.ensures ∙ ap₂ InvAES128 key.same block.same)
    c.give.ensures
