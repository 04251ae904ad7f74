-- The sizes that the calls of hash and message authentication code ask for: refused where one is not so, answered where all are.
use mathlib.Core.Path.{◌≡◌}
use mathlib.Core.Bool.{◌&&◌}
use mathlib.Core.List.{List, ◌++◌}
use Prim.Native.Nat.{ℕ, ◌+◌, ◌≤◌}
use borrow.Author.Tests.{le-leb}
use lib.Dec.{leb, eqb, leb→le}
use lib.ListN.{length, length-append}
use Rattle.primitives.specs.Standards.{SHA256, HMAC}
use Rattle.std.specs.Prelude.{Err}
use Rattle.lent_answer.specs.Ends.{Ending, Ends}
use Rattle.lent_answer.specs.declared.WrongSize.{WrongSize}
use Rattle.lent_answer.proofs.Answered.{both, three, refused, exactly, given}
use Rattle.hash_calls.specs.Calls.{hashed, authenticated}
use Rattle.sizes.specs.Sizes.{longest_message}

module _ (message before : List ℕ) where
  pub hashed_refused : (wrong : WrongSize) → (length message ≤ longest_message → ⊥) → Ends (hashed message (length before)) (Err wrong) before before
  unfolding hashed
  hashed_refused wrong fails =
      refused (SHA256 message) before wrong (leb (length message) longest_message && eqb (length before) 32)
      (λ t. fails (leb→le _ _ (both (leb (length message) longest_message) (eqb (length before) 32) t).0))

  pub hashed_given : (bytes after : List ℕ) (end : Ending) → length message ≤ longest_message → length bytes ≡ 32 → bytes ≡ SHA256 message
      → Ends (exactly bytes before) end before after → Ends (hashed message (length before)) end before after
  unfolding hashed
  hashed_given bytes after end m size same g =
      given bytes before (leb (length message) longest_message) 32 (SHA256 message) end after (le-leb _ _ m) size same g

pub length_three : (xs ys zs : List ℕ) → length (xs ++ (ys ++ zs)) ≡ length xs + (length ys + length zs)
length_three xs ys zs = simp length-append

module _ (key message before : List ℕ) where
  pub authenticated_refused : (wrong : WrongSize) → (length key ≤ longest_message → length message ≤ longest_message → ⊥)
      → Ends (authenticated key message (length before)) (Err wrong) before before
  unfolding authenticated
  authenticated_refused wrong fails =
      refused (HMAC key message) before wrong _
      (λ t.
      let p = three (leb (length key) longest_message) (leb (length message) longest_message) (eqb (length before) 32) t in
      fails (leb→le _ _ p.0) (leb→le _ _ p.1.0))

  pub authenticated_given : (bytes after : List ℕ) (end : Ending) → length key ≤ longest_message → length message ≤ longest_message
      → length bytes ≡ 32 → bytes ≡ HMAC key message → Ends (exactly bytes before) end before after
      → Ends (authenticated key message (length before)) end before after
  unfolding authenticated
  authenticated_given bytes after end k m size same g =
      rw (le-leb _ _ k) (given bytes before (leb (length message) longest_message) 32 (HMAC key message) end after (le-leb _ _ m) size same g)
