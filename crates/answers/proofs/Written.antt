-- An answer written in three parts, one after the other: the lent bytes then hold the three and the rest as it was.
use mathlib.Core.Path.{◌≡◌, refl, sym, ap, ◌∙◌}
use mathlib.Core.List.{List, [], ◌++◌}
use Prim.Native.Nat.{ℕ, ◌+◌}
use native.Mathlib.Omega.{arith}
use lib.ListN.{length, take, drop, length-append}
use Rattle.laws.specs.Answer.{gives, lent_after}
use Rattle.laws.proofs.Copied.{copied_next}

module _ (before one two three p q r : List ℕ) (np : length p ≡ 2) (nq : length q ≡ 8) where
  pub written : one ≡ take 0 before ++ (p ++ drop (0 + length p) before)
      → two ≡ take 2 one ++ (q ++ drop (2 + length q) one)
      → three ≡ take 10 two ++ (r ++ drop (10 + length r) two)
      → three ≡ lent_after (gives ((p ++ q) ++ r)) before
  unfolding lent_after
  written e f g =
      let first : one ≡ p ++ drop 2 before = rw np at (copied_next before [] p before one 0 refl refl e) in
      let second : two ≡ (p ++ q) ++ drop 10 before = rw nq at (copied_next before p q one two 2 np first f) in
      let n : length (p ++ q) ≡ 10 = omega (arith, length-append p q) in
      let all : length ((p ++ q) ++ r) ≡ 10 + length r = omega (arith, length-append (p ++ q) r) in
      copied_next before (p ++ q) r two three 10 n second g ∙ ap (λ (k : ℕ). ((p ++ q) ++ r) ++ drop k before) (sym all)
