-- Laws of a loop that copies a list into a buffer from a place on, a store a turn, and of one copy after another.
-- `paste xs at ys n` is xs with the first n elements of ys put in from the place on.
use mathlib.Core.Path.{◌≡◌, sym, ap, ◌∙◌}
use mathlib.Core.List.{List, ◌++◌, append-nil, append_assoc}
use Prim.Native.Nat.{ℕ, ◌+◌, ◌≤◌, ◌<◌}
use native.Mathlib.Omega.{arith}
use native.Mathlib.Numerals.{add-one}
use lib.ListN.{length, get_or, take, drop, set, drop_of_length-le}
use lib.Seq.{paste, paste-suc, take_all, take_at, drop_at, drop-drop}

module _ {A : Type 0} where
  -- one turn: the store, and the next place
  pub copied_turn : (xs : List A) (at : ℕ) (ys out : List A) (i : ℕ) (d : A) → at + length ys ≤ length xs → i < length ys
      → out ≡ paste xs at ys i → set out (at + i) (get_or ys i d) ≡ paste xs at ys (i + 1)
  copied_turn xs at ys out i d room more e =
      let inside : at + i < length xs = omega arith in
      rw (e, add-one) (paste-suc xs at ys i d inside more)

  -- after all turns
  pub copied_all : (xs : List A) (at : ℕ) (ys out : List A) (i : ℕ) → i ≡ length ys → out ≡ paste xs at ys i
      → out ≡ take at xs ++ (ys ++ drop (at + length ys) xs)
  copied_all xs at ys out i e p =
      p ∙ rw (e, take_all (length ys) ys (omega arith)) (append_assoc (take at xs) ys (drop (at + length ys) xs))

  -- a copy right after what earlier copies put at the front of xs, which is p
  pub copied_next : (xs p ys before after : List A) (at : ℕ) → length p ≡ at → before ≡ p ++ drop at xs
      → after ≡ take at before ++ (ys ++ drop (at + length ys) before) → after ≡ (p ++ ys) ++ drop (at + length ys) xs
  copied_next xs p ys before after at e b a =
      let rest : drop (at + length ys) (p ++ drop at xs) ≡ drop (at + length ys) xs
      = sym (drop-drop (length ys) at (p ++ drop at xs)) ∙ ap (drop (length ys)) (drop_at p (drop at xs) at e) ∙ drop-drop (length ys) at xs in
      a ∙ rw (b, take_at p (drop at xs) at e, rest) (sym (append_assoc p ys (drop (at + length ys) xs)))

  -- where the copies reach the end, nothing of xs is left
  pub nothing_left : (xs p : List A) (n : ℕ) → length xs ≤ n → p ++ drop n xs ≡ p
  nothing_left xs p n h = rw (drop_of_length-le xs h) (append-nil p)

  -- a copy over all of xs
  pub copied_over : (xs ys out : List A) → length ys ≡ length xs → out ≡ take 0 xs ++ (ys ++ drop (0 + length ys) xs) → out ≡ ys
  copied_over xs ys out e p = p ∙ nothing_left xs ys (0 + length ys) (omega arith)
