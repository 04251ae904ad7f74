use Prim.Native.Nat.{◌≤◌, ◌-◌}
use mathlib.Core.Path.{◌≡◌}
use lib.ListN.{drop}
use Rattle.sizes.specs.Sizes.{account_key_size}
use Rattle.tables.specs.Rows.{rows, first_that}
use Rattle.wire.specs.Shape.{request}
use Rattle.authentication.specs.Judgement.{tagged}
use Rattle.signers.proofs.first_of.Given as goal

abbrev pub invariant-loop-i : goal.invariant-loop-i
invariant-loop-i l =
    (l.i ≤ l.count)
    × (first_that (λ k. tagged k l.nonce (request l.h l.additional)) (rows account_key_size l.count l.keys)
    ≡ first_that (λ k. tagged k l.nonce (request l.h l.additional)) (drop l.i (rows account_key_size l.count l.keys)))

abbrev pub decreases-loop-i : goal.decreases-loop-i
decreases-loop-i l = l.count - l.i
