-- `signers::first_of` meets its contract: at every turn the keys from place `i` on decide.
use Prim.Native.Nat.{ℕ, ◌≤◌, ◌<◌}
use mathlib.Core.Path.{refl, sym, ap, ◌∙◌}
use mathlib.Core.List.{List}
use native.Mathlib.Omega.{arith}
use borrow.Author.Rules.{rules}
use lib.ListN.{length}
use Rattle.sizes.specs.Sizes.{account_key_size}
use Rattle.primitives.specs.Standards.{keyed_by}
use Rattle.tables.specs.Rows.{rows}
use Rattle.tables.proofs.Rows.{length_rows, length_row, first_next, first_here, first_end}
use Rattle.wire.specs.Shape.{request}
use Rattle.authentication.specs.Judgement.{tagged}
use Rattle.authentication.proofs.Finding.{tried_signs, tried_fails}
use Rattle.signers.proofs.first_of.Goals as goal

pub loop-i-init : goal.loop-i-init
loop-i-init c = (omega arith, refl)

pub row-row-requires : goal.row-row-requires
row-row-requires c = (omega arith, c.requires.0)

pub tried-requires : goal.tried-requires
tried-requires c =
    let turn = c.loop-i in
    let long = length_row account_key_size c.args.count c.args.keys.now turn.i (omega arith) c.requires.0 in
    (omega (arith, ap length c.row-row.ensures ∙ long), c.requires.1)

pub overflow_add-i : goal.overflow_add-i
overflow_add-i c = omega arith

pub loop-i-smaller : goal.loop-i-smaller
loop-i-smaller c = omega arith

pub loop-i-preserved : goal.loop-i-preserved
loop-i-preserved c =
    let known = c.args in
    let turn = c.loop-i in
    let l : List (List ℕ) = rows account_key_size known.count known.keys.now in
    let there : turn.i < length l = omega (arith, length_rows account_key_size known.count known.keys.now) in (
      omega arith,
      turn.invariant.1
          ∙ first_next (λ (k : List ℕ). tagged k known.nonce (request known.h known.additional.now)) l turn.i there
          (ap (λ (k : List ℕ). tagged k known.nonce (request known.h known.additional.now)) (sym c.row-row.ensures)
          ∙ tried_fails c.tried.ensures c.in_default.is),
    )

pub returns-then-count-i : goal.returns-then-count-i
returns-then-count-i c =
    let known = c.args in
    let turn = c.loop-i in
    let l : List (List ℕ) = rows account_key_size known.count known.keys.now in
    let none_left : length l ≤ turn.i = omega (arith, length_rows account_key_size known.count known.keys.now) in
    let last = turn.invariant.1 ∙ first_end (λ (k : List ℕ). tagged k known.nonce (request known.h known.additional.now)) l turn.i none_left in
    record { finds = record { row_is = last; within = search rules }; ready_from = search rules }

pub returns-in-Some : goal.returns-in-Some
returns-in-Some c =
    let known = c.args in
    let turn = c.loop-i in
    let l : List (List ℕ) = rows account_key_size known.count known.keys.now in
    let there : turn.i < length l = omega (arith, length_rows account_key_size known.count known.keys.now) in
    let here =
    turn.invariant.1
    ∙ first_here (λ (k : List ℕ). tagged k known.nonce (request known.h known.additional.now)) l turn.i there
    (ap (λ (k : List ℕ). tagged k known.nonce (request known.h known.additional.now)) (sym c.row-row.ensures)
    ∙ (tried_signs c.tried.ensures c.in-Some.is).0) in
    record { finds = record { row_is = here; within = there }; ready_from = (tried_signs c.tried.ensures c.in-Some.is).1 ∙ ap keyed_by c.row-row.ensures }
