-- Laws of how many bytes two lists have in common from the first on: within both, the same up to there, and one more exactly where the next
-- bytes are the same.
use Prim.Native.Nat.{ℕ, zero, suc, ◌≤◌, ◌<◌}
use mathlib.Core.Path.{◌≡◌, refl, sym, ap, ◌∙◌}
use mathlib.Core.Logic.{◌⊎◌, inl, inr}
use mathlib.Core.Bool.{Bool, true, false, cond}
use mathlib.Core.List.{List, [], ◌∷◌}
use native.Mathlib.Omega.{arith}
use lib.Dec.{eqb, ltb, leb-suc-suc}
use lib.ListN.{length, get_or, take}
use lib.Seq.{take_all, get_or-take}
use borrow.Author.Tests.{eqb-true, eq-eqb, lt-ltb}
use Rattle.laws.specs.Bytes.{same_bytes}
use Rattle.laws.proofs.Flags.{fails}
use Rattle.laws.proofs.Same.{same_equal, equal_same}
use Rattle.frame_reader.specs.Reader.{common}

pub within_left : (a b : List ℕ) → common a b ≤ length a
unfolding common
within_left [] b = omega arith
within_left (x ∷ xs) [] = omega arith
within_left (x ∷ xs) (y ∷ ys) = go (eqb x y) (within_left xs ys)
  where
    go : (s : Bool) → common xs ys ≤ length xs → cond s (suc (common xs ys)) 0 ≤ suc (length xs)
    go true h = omega arith
    go false h = omega arith

pub within_right : (a b : List ℕ) → common a b ≤ length b
unfolding common
within_right [] b = omega arith
within_right (x ∷ xs) [] = omega arith
within_right (x ∷ xs) (y ∷ ys) = go (eqb x y) (within_right xs ys)
  where
    go : (s : Bool) → common xs ys ≤ length ys → cond s (suc (common xs ys)) 0 ≤ suc (length ys)
    go true h = omega arith
    go false h = omega arith

-- up to there the lists are the same
pub same_below_lem : (a b : List ℕ) (i : ℕ) → i ≤ common a b → take i a ≡ take i b
unfolding common
same_below_lem a b zero h = refl
same_below_lem [] b (suc i) h = absurd (omega arith)
same_below_lem (x ∷ xs) [] (suc i) h = absurd (omega arith)
same_below_lem (x ∷ xs) (y ∷ ys) (suc i) h = go (eqb x y) (eqb-true x y) (same_below_lem xs ys i) h
  where
    go : (s : Bool) → (s ≡ true → x ≡ y) → (i ≤ common xs ys → take i xs ≡ take i ys) → suc i ≤ cond s (suc (common xs ys)) 0
        → x ∷ take i xs ≡ y ∷ take i ys
    go true e rest k = rw (e refl, rest (omega arith))
    go false e rest k = absurd (omega arith)

pub same_at : (a b : List ℕ) (j : ℕ) → j < common a b → get_or a j 0 ≡ get_or b j 0
same_at a b j h =
    sym (get_or-take (suc j) a j 0 (omega arith))
    ∙ ap (λ (l : List ℕ). get_or l j 0) (same_below_lem a b (suc j) h)
    ∙ get_or-take (suc j) b j 0 (omega arith)

-- and as far as they are the same, they have that in common
pub reaches : (a b : List ℕ) (i : ℕ) → i ≤ length a → i ≤ length b → ((j : ℕ) → j < i → get_or a j 0 ≡ get_or b j 0) → i ≤ common a b
unfolding common
reaches a b zero la lb h = omega arith
reaches [] b (suc i) la lb h = absurd (omega arith)
reaches (x ∷ xs) [] (suc i) la lb h = absurd (omega arith)
reaches (x ∷ xs) (y ∷ ys) (suc i) la lb h =
    rw (eq-eqb x y (h 0 (omega arith)))
    (omega (arith, reaches xs ys i (omega arith) (omega arith) (λ j k. h (suc j) (omega arith))))

-- one byte more
pub goes_on : (a b : List ℕ) (i : ℕ) → i ≤ common a b → i < length a → i < length b → ltb i (common a b) ≡ eqb (get_or a i 0) (get_or b i 0)
unfolding common
goes_on [] b i h la lb = absurd (omega arith)
goes_on (x ∷ xs) [] i h la lb = absurd (omega arith)
goes_on (x ∷ xs) (y ∷ ys) zero h la lb = go (eqb x y)
  where
    go : (s : Bool) → ltb 0 (cond s (suc (common xs ys)) 0) ≡ s
    go true = lt-ltb 0 (suc (common xs ys)) (omega arith)
    go false = refl
goes_on (x ∷ xs) (y ∷ ys) (suc i) h la lb = go (eqb x y) (λ k. goes_on xs ys i k (omega arith) (omega arith)) h
  where
    go : (s : Bool) → (i ≤ common xs ys → ltb i (common xs ys) ≡ eqb (get_or xs i 0) (get_or ys i 0)) → suc i ≤ cond s (suc (common xs ys)) 0
        → ltb (suc i) (cond s (suc (common xs ys)) 0) ≡ eqb (get_or xs i 0) (get_or ys i 0)
    go true rest k = leb-suc-suc (suc i) (common xs ys) ∙ rest (omega arith)
    go false rest k = absurd (omega arith)

-- two lists are the same exactly where that is all of both
module _ (a b : List ℕ) where
  pub all_common : common a b ≡ length a → length a ≡ length b → same_bytes a b ≡ true
  all_common e f =
      equal_same a b
      (sym (take_all (length a) a (omega arith)) ∙ same_below_lem a b (length a) (omega arith) ∙ take_all (length a) b (omega arith))

  common_itself : (c : List ℕ) → length c ≤ common c c
  common_itself c = reaches c c (length c) (omega arith) (omega arith) (λ j h. refl)

  pub not_all_common : (common a b < length a) ⊎ (common a b < length b) → same_bytes a b ≡ false
  not_all_common h = fails (same_bytes a b) (λ s. differ (same_equal a b s) h)
    where
      differ : a ≡ b → (common a b < length a) ⊎ (common a b < length b) → ⊥
      differ e (inl k) = omega (arith, rw e at k, common_itself b)
      differ e (inr k) = omega (arith, rw e at k, common_itself b)
