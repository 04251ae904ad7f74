-- `hmac_sha256_parts` meets its contract: a size that the test found wrong refuses, and the code is given.
use mathlib.Core.List.{◌++◌}
use native.Mathlib.Omega.{arith}
use borrow.Author.Rules.{rules}
use Rattle.hash_calls.proofs.Answered.{length_three, authenticated_refused, authenticated_given}
use Rattle.hash_calls.proofs.hmac_sha256_parts.Goals as goal
use Rattle.hash_calls.proofs.hmac_sha256_parts.Goals.{then-key-gt-LONGEST-via-then-key-gt-LONGEST, then-key-gt-LONGEST-via-else-key-gt-LONGEST+then-message-gt-LONGEST}

pub returns-then-key-gt-LONGEST : goal.returns-then-key-gt-LONGEST
returns-then-key-gt-LONGEST c =
    let a = c.args in
    authenticated_refused a.key.now (a.head.now ++ (a.tail.now ++ a.last.now)) a.answer.now _
    (λ k m.
    elim c.then-key-gt-LONGEST.branch [
      | then-key-gt-LONGEST-via-then-key-gt-LONGEST w ↦ omega (arith, w.if-key-gt-LONGEST.true)
      | then-key-gt-LONGEST-via-else-key-gt-LONGEST+then-message-gt-LONGEST w ↦
          omega (arith, w.if-message-gt-LONGEST.true, length_three a.head.now a.tail.now a.last.now)
    ])

pub returns : goal.returns
returns c =
    let a = c.args in
    let code = c.mac-tag in
    authenticated_given a.key.now (a.head.now ++ (a.tail.now ++ a.last.now)) a.answer.now code.result
    c.give.new.answer c.give.result (omega arith)
    (omega (arith, length_three a.head.now a.tail.now a.last.now)) (search rules) code.ensures c.give.ensures
