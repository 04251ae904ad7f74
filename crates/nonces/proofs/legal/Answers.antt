-- `nonces::legal` meets its contract: each test is one of the lines.
use mathlib.Core.Path.{◌≡◌, sym}
use mathlib.Core.Bool.{true, ◌&&◌}
use mathlib.Core.List.{◌++◌}
use Prim.Native.Nat.{◌*◌, ◌≤◌, ◌<◌}
use native.Mathlib.Omega.{arith}
use lib.ListN.{length, drop}
use borrow.Author.Tests.{ltb-true, lt-ltb, not-true, not-false}
use Rattle.laws.specs.Bytes.{all_zero}
use Rattle.laws.proofs.Flags.{granted, refuted, and_left, and_right, both, fails, agree, clash}
use Rattle.sizes.specs.Sizes.{nonce_size, earlier_room, most_nonces}
use Rattle.tables.specs.Rows.{rows, distinct}
use Rattle.nonces.specs.Nonces.{issued_nonces}
use Rattle.nonces.specs.declared.Nonces.{Nonces}
use Rattle.nonces.proofs.Lines.{NoncesLines, nonces_lines, nonces_legal_lem}
use Rattle.nonces.proofs.legal.Goals as goal

by_tests : (n : Nonces) → length n.newest ≡ nonce_size → length n.earlier ≡ earlier_room → n.count ≤ most_nonces
    → distinct (rows nonce_size n.count (n.newest ++ n.earlier)) && all_zero (drop (n.count * nonce_size) (n.newest ++ n.earlier)) ≡ true
    → (n.live ≡ true → 0 < n.count) → NoncesLines n
unfolding issued_nonces
by_tests n newest rest count tests held =
    record {
      newest_room = newest;
      rest_room = rest;
      count = count;
      different = and_left _ _ tests;
      spare = and_right (distinct (rows nonce_size n.count (n.newest ++ n.earlier))) _ tests;
      held = held;
    }

pub returns-then-n-gt-MOST_NONCES : goal.returns-then-n-gt-MOST_NONCES
returns-then-n-gt-MOST_NONCES c = sym (fails _ (λ e. omega (arith, (nonces_lines c.args.n e).count)))

pub returns-then-not-n : goal.returns-then-not-n
returns-then-not-n c =
    let n = c.args.n in
    let tests = granted (rw c.table.ensures.0 at c.rows_legal.ensures) c.if-rows_legal.true in
    rw c.if-not-n.true (sym (nonces_legal_lem n (by_tests n c.table.ensures.1 c.table.ensures.2 (omega arith) tests (λ live. absurd (clash live (not-true _ c.if-not-n.true))))))

pub returns-else-not-n : goal.returns-else-not-n
returns-else-not-n c =
    let n = c.args.n in
    let tests = granted (rw c.table.ensures.0 at c.rows_legal.ensures) c.if-rows_legal.true in
    agree _ _ (λ e. nonces_legal_lem n (by_tests n c.table.ensures.1 c.table.ensures.2 (omega arith) tests (λ live. ltb-true 0 _ e)))
    (λ e. lt-ltb 0 _ ((nonces_lines n e).held (not-false _ c.if-not-n.false)))

pub returns-else-rows_legal : goal.returns-else-rows_legal
unfolding issued_nonces
returns-else-rows_legal c =
    let n = c.args.n in
    let broken = refuted (rw c.table.ensures.0 at c.rows_legal.ensures) c.if-rows_legal.false in
    rw c.if-rows_legal.false (sym (fails _ (λ e. clash (both (nonces_lines n e).different (nonces_lines n e).spare) broken)))
