-- `sha256` meets its contract: a message that is too long refuses, and the digest is given.
use mathlib.Core.Path.{ap, ◌∙◌}
use mathlib.Core.List.{append-nil}
use native.Mathlib.Omega.{arith}
use borrow.Author.Rules.{rules}
use Rattle.primitives.specs.Standards.{SHA256}
use Rattle.hash_calls.proofs.Answered.{hashed_refused, hashed_given}
use Rattle.hash_calls.proofs.sha256.Goals as goal

pub returns-then-message-gt-LONGEST : goal.returns-then-message-gt-LONGEST
returns-then-message-gt-LONGEST c =
    let a = c.args in
    hashed_refused a.message.now a.answer.now _ (λ m. omega arith)

pub returns : goal.returns
returns c =
    let a = c.args in
    let digest = c.hash_pair-digest in
    hashed_given a.message.now a.answer.now digest.result c.give.new.answer c.give.result (omega arith)
    (search rules) (digest.ensures ∙ ap SHA256 (append-nil a.message.now)) c.give.ensures
