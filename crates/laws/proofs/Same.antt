-- Laws of `same_bytes` and `all_zero`: the tests hold exactly of equal lists and of lists of zeros, and how a loop that goes from the
-- front decides them.
use Prim.Native.Nat.{ℕ, zero, suc, ◌+◌, ◌≤◌, ◌<◌}
use mathlib.Core.Path.{◌≡◌, refl, sym, ap}
use mathlib.Core.Bool.{Bool, true, false, ◌&&◌}
use mathlib.Core.List.{List, [], ◌∷◌}
use native.Mathlib.Numerals.{add-one}
use lib.Dec.{eqb}
use lib.ListN.{length, get_or, drop, replicate, drop_of_length-le}
use lib.Seq.{drop-cons, drop-drop}
use lib.Pointwise.{pointwise}
use borrow.Author.Tests.{eqb-true, eq-eqb}
use Rattle.laws.specs.Bytes.{same_bytes, all_zero}
use Rattle.laws.proofs.Flags.{and_left, and_right, both, fails, agree, clash}

pub same_refl : (a : List ℕ) → same_bytes a a ≡ true
unfolding same_bytes
same_refl [] = refl
same_refl (x ∷ xs) = both (eq-eqb x x refl) (same_refl xs)

-- std's test of lists is this one
pub pointwise_same : (a b : List ℕ) → pointwise eqb a b ≡ same_bytes a b
unfolding same_bytes
pointwise_same [] [] = refl
pointwise_same [] (y ∷ ys) = refl
pointwise_same (x ∷ xs) [] = refl
pointwise_same (x ∷ xs) (y ∷ ys) = ap (λ (t : Bool). eqb x y && t) (pointwise_same xs ys)

pub same_equal : (a b : List ℕ) → same_bytes a b ≡ true → a ≡ b
unfolding same_bytes
same_equal [] [] h = refl
same_equal [] (y ∷ ys) h = cc
same_equal (x ∷ xs) [] h = cc
same_equal (x ∷ xs) (y ∷ ys) h =
    let here : x ≡ y = eqb-true x y (and_left (eqb x y) (same_bytes xs ys) h) in
    let rest : xs ≡ ys = same_equal xs ys (and_right (eqb x y) (same_bytes xs ys) h) in
    cc

pub equal_same : (a b : List ℕ) → a ≡ b → same_bytes a b ≡ true
equal_same a b e = rw e (same_refl b)

pub same_differ : (a b : List ℕ) → same_bytes a b ≡ false → a ≡ b → ⊥
same_differ a b h e = clash (equal_same a b e) h

pub differ_same : (a b : List ℕ) → (a ≡ b → ⊥) → same_bytes a b ≡ false
differ_same a b h = fails (same_bytes a b) (λ e. h (same_equal a b e))

pub same_sym : (a b : List ℕ) → same_bytes a b ≡ same_bytes b a
same_sym a b =
    agree (same_bytes a b) (same_bytes b a)
    (λ e. equal_same b a (sym (same_equal a b e)))
    (λ e. equal_same a b (sym (same_equal b a e)))

-- Lists of other lengths differ
pub lengths_differ : (a b : List ℕ) → (length a ≡ length b → ⊥) → same_bytes a b ≡ false
lengths_differ a b h = differ_same a b (λ e. h (ap length e))

-- A loop from the front: the bytes at a place and the rest decide together, and the end is the same
module _ (a b : List ℕ) (i : ℕ) where
  pub same_from : i < length a → i < length b
      → same_bytes (drop i a) (drop i b) ≡ (eqb (get_or a i 0) (get_or b i 0) && same_bytes (drop (i + 1) a) (drop (i + 1) b))
  unfolding same_bytes
  same_from h k = rw (add-one i, drop-cons a i 0 h, drop-cons b i 0 k)

  pub same_end : length a ≤ i → length b ≤ i → same_bytes (drop i a) (drop i b) ≡ true
  unfolding same_bytes
  same_end h k = rw (drop_of_length-le a h, drop_of_length-le b k)

pub zeros_replicate : (l : List ℕ) → all_zero l ≡ true → l ≡ replicate (length l) 0
unfolding all_zero
zeros_replicate [] h = refl
zeros_replicate (x ∷ xs) h =
    let here : x ≡ 0 = eqb-true x 0 (and_left (eqb x 0) (all_zero xs) h) in
    let rest : xs ≡ replicate (length xs) 0 = zeros_replicate xs (and_right (eqb x 0) (all_zero xs) h) in
    cc

pub replicate_zeros : (n : ℕ) → all_zero (replicate n 0) ≡ true
unfolding all_zero
replicate_zeros zero = refl
replicate_zeros (suc n) = replicate_zeros n

module _ (s : List ℕ) (i : ℕ) where
  pub zeros_from : i < length s → all_zero (drop i s) ≡ (eqb (get_or s i 0) 0 && all_zero (drop (i + 1) s))
  unfolding all_zero
  zeros_from h = rw (add-one i, drop-cons s i 0 h)

  pub zeros_end : length s ≤ i → all_zero (drop i s) ≡ true
  unfolding all_zero
  zeros_end h = rw (drop_of_length-le s h)

-- Zeros from a place on are zeros from any later place on
zeros_behind : (l : List ℕ) (n : ℕ) → all_zero l ≡ true → all_zero (drop n l) ≡ true
unfolding all_zero
zeros_behind l zero h = h
zeros_behind [] (suc n) h = refl
zeros_behind (x ∷ xs) (suc n) h = zeros_behind xs n (and_right (eqb x 0) _ h)

pub zeros_later : (l : List ℕ) (n m : ℕ) → all_zero (drop n l) ≡ true → all_zero (drop (n + m) l) ≡ true
zeros_later l n m h = rw drop-drop at (zeros_behind (drop n l) m h)
