-- Laws of a tabulated list: its length, its elements, and how a buffer is filled with one, a store a turn.
use mathlib.Core.Path.{◌≡◌, refl, sym, ap, ◌∙◌}
use mathlib.Core.List.{List, [], ◌∷◌, ◌++◌, append-nil, append_assoc}
use Prim.Native.Nat.{ℕ, zero, suc, ◌+◌, ◌-◌, ◌≤◌, ◌<◌}
use native.Mathlib.Omega.{arith}
use native.Mathlib.Numerals.{add-one}
use native.Mathlib.Decide.{dec_lt}
use lib.ListN.{length, get_or, drop, set, length-append, get_or-append}
use lib.Seq.{ext_get_or, get_or_at, get_or-append-add, get_or-drop, drop-cons, set_at, drop-length}
use Rattle.laws.specs.Bytes.{tabulate}

module _ {A : Type 0} where
  pub length_tabulate : (n : ℕ) (f : ℕ → A) → length (tabulate n f) ≡ n
  unfolding tabulate
  length_tabulate zero f = refl
  length_tabulate (suc n) f = length-append (tabulate n f) (f n ∷ []) ∙ rw (length_tabulate n f) (add-one n)

  pub get_or_tabulate : (n : ℕ) (f : ℕ → A) (i : ℕ) (d : A) → i < n → get_or (tabulate n f) i d ≡ f i
  unfolding tabulate
  get_or_tabulate zero f i d h = absurd (omega arith)
  get_or_tabulate (suc n) f i d h = go (dec_lt i n) (get_or_tabulate n f i d)
    where
      go : Dec (i < n) → (i < n → get_or (tabulate n f) i d ≡ f i) → get_or (tabulate n f ++ (f n ∷ [])) i d ≡ f i
      go (yes p) ih = get_or-append (tabulate n f) (f n ∷ []) d i (rw length_tabulate p) ∙ ih p
      go (no q) ih =
          let e : i ≡ n = omega arith in
          get_or_at (tabulate n f) (f n) [] d i (length_tabulate n f ∙ sym e) ∙ ap f (sym e)

  pub tabulate_ext : (n : ℕ) (f g : ℕ → A) → ((i : ℕ) → i < n → f i ≡ g i) → tabulate n f ≡ tabulate n g
  unfolding tabulate
  tabulate_ext zero f g h = refl
  tabulate_ext (suc n) f g h =
      rw (tabulate_ext n f g (λ i p. h i (omega arith)), h n (omega arith))

  -- a list is the tabulation of its elements
  pub tabulate_get_or : (d : A) (l : List A) → tabulate (length l) (λ i. get_or l i d) ≡ l
  tabulate_get_or d l =
      ext_get_or d (tabulate (length l) (λ i. get_or l i d)) l (length_tabulate (length l) (λ i. get_or l i d))
      (λ i h. get_or_tabulate (length l) (λ j. get_or l j d) i d (rw length_tabulate at h))

  -- a list with n elements, given one by one
  pub is_tabulate : (d : A) (n : ℕ) (f : ℕ → A) (l : List A) → length l ≡ n → ((i : ℕ) → i < n → get_or l i d ≡ f i) → l ≡ tabulate n f
  is_tabulate d n f l e h =
      ext_get_or d l (tabulate n f) (e ∙ sym (length_tabulate n f))
      (λ i p. h i (rw e at p) ∙ sym (get_or_tabulate n f i d (rw e at p)))

  -- a buffer of which the first i elements are f's: nothing yet, one more, and all
  unfoldable pub filled_to : ℕ → (ℕ → A) → List A → List A
  filled_to i f xs = tabulate i f ++ drop i xs

  pub filled_none : (f : ℕ → A) (xs : List A) → xs ≡ filled_to 0 f xs
  unfolding filled_to tabulate
  filled_none f xs = refl

  pub filled_more : (f : ℕ → A) (xs : List A) (i : ℕ) (d : A) → i < length xs → set (filled_to i f xs) i (f i) ≡ filled_to (suc i) f xs
  unfolding filled_to tabulate
  filled_more f xs i d h =
      ap (λ (t : List A). set (tabulate i f ++ t) i (f i)) (drop-cons xs i d h)
      ∙ set_at (tabulate i f) (get_or xs i d) (drop (suc i) xs) (f i) i (length_tabulate i f)
      ∙ sym (append_assoc (tabulate i f) (f i ∷ []) (drop (suc i) xs))

  pub filled_all : (f : ℕ → A) (xs : List A) (i : ℕ) → i ≡ length xs → filled_to i f xs ≡ tabulate i f
  unfolding filled_to
  filled_all f xs i e =
      ap (λ (n : ℕ). tabulate i f ++ drop n xs) e
      ∙ ap (λ (t : List A). tabulate i f ++ t) (drop-length xs)
      ∙ append-nil (tabulate i f)

  -- one turn of a loop that fills a buffer: the store, and the next place
  pub filled_turn : (f : ℕ → A) (xs out : List A) (i : ℕ) (a d : A) → i < length xs → out ≡ filled_to i f xs → a ≡ f i
      → set out i a ≡ filled_to (i + 1) f xs
  filled_turn f xs out i a d h e q = rw (e, q, add-one) (filled_more f xs i d h)

  -- an element of the first i, and one of the rest
  pub filled_done : (f : ℕ → A) (xs : List A) (i j : ℕ) (d : A) → j < i → get_or (filled_to i f xs) j d ≡ f j
  unfolding filled_to
  filled_done f xs i j d h =
      get_or-append (tabulate i f) (drop i xs) d j (rw length_tabulate h) ∙ get_or_tabulate i f j d h

  pub filled_rest : (f : ℕ → A) (xs : List A) (i j : ℕ) (d : A) → i ≤ j → get_or (filled_to i f xs) j d ≡ get_or xs j d
  unfolding filled_to
  filled_rest f xs i j d h =
      let e : length (tabulate i f) + (j - i) ≡ j = rw length_tabulate (omega arith) in
      let e' : i + (j - i) ≡ j = omega arith in
      ap (λ (n : ℕ). get_or (filled_to i f xs) n d) (sym e)
      ∙ get_or-append-add (tabulate i f) (drop i xs) (j - i) d
      ∙ get_or-drop i xs (j - i) d
      ∙ ap (λ (n : ℕ). get_or xs n d) e'

  pub tabulate_suc : (n : ℕ) (f : ℕ → A) → tabulate (suc n) f ≡ tabulate n f ++ (f n ∷ [])
  unfolding tabulate
  tabulate_suc n f = refl
