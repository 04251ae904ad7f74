-- The shape of a write: its first ten bytes, when it is legal, and how long the additional data then is.
use Prim.Native.Nat.{ℕ, zero, suc, ◌+◌, ◌≤◌, ◌<◌}
use mathlib.Core.Path.{◌≡◌, refl, ap, ◌∙◌}
use mathlib.Core.Bool.{Bool, true, false, ◌&&◌, false≢true}
use mathlib.Core.List.{List, [], ◌∷◌}
use mathlib.Core.Logic.{◌⊎◌, inl, inr}
use native.Mathlib.Omega.{arith}
use lib.Dec.{eqb, leb}
use lib.ListN.{length, get_or, take, drop}
use borrow.Author.Tests.{le-leb, lt-leb, leb-true, eqb-true}
use Rattle.laws.proofs.Flags.{and_left, and_right, and_fails_left, or_cases}
use Rattle.sizes.specs.Sizes.{tag_size, head_size, identity_key_size}
use Rattle.wire.specs.Shape.{request, parsed, legal_sizes, one_of, size_legal, shape_legal}
use Rattle.shapes.proofs.Sizes.{legal_one}

-- Every length of a row, and of all rows, is at least so much
abbrev at_least : ℕ → List ℕ → Bool
at_least least [] = true
at_least least (x ∷ xs) = leb least x && at_least least xs

abbrev rows_at_least : ℕ → List (List ℕ) → Bool
rows_at_least least [] = true
rows_at_least least (row ∷ rows) = at_least least row && rows_at_least least rows

row_at_least : (least : ℕ) (rows : List (List ℕ)) → rows_at_least least rows ≡ true → (id : ℕ) → at_least least (get_or rows id []) ≡ true
row_at_least least [] t id = refl
row_at_least least (row ∷ rows) t zero = and_left _ _ t
row_at_least least (row ∷ rows) t (suc id) = row_at_least least rows (and_right (at_least least row) _ t) id

one_at_least : (least n : ℕ) (row : List ℕ) → at_least least row ≡ true → one_of n row ≡ true → least ≤ n
unfolding one_of
one_at_least least n [] t h = absurd (false≢true h)
one_at_least least n (x ∷ xs) t h =
    go (or_cases (eqb n x) (one_of n xs) h) (one_at_least least n xs (and_right (leb least x) _ t))
  where
    go : (eqb n x ≡ true) ⊎ (one_of n xs ≡ true) → (one_of n xs ≡ true → least ≤ n) → least ≤ n
    go (inl e) rest = omega (arith, eqb-true n x e, leb-true least x (and_left _ _ t))
    go (inr e) rest = rest e

-- so a legal write has its tag whole
least_size : (id size : ℕ) → size_legal id size ≡ true → tag_size ≤ size
unfolding size_legal legal_sizes
least_size id size h = one_at_least tag_size size (get_or legal_sizes id []) (row_at_least tag_size legal_sizes refl id) h

-- the additional data of 0x02 holds a key, that of 0x05 four bytes
module _ {id size : ℕ} (additional : List ℕ) (legal : size_legal id size ≡ true) (sized : tag_size + length additional ≡ size) where
  pub key_inside : id ≡ 2 → identity_key_size ≤ length additional
  unfolding size_legal legal_sizes
  key_inside e = omega (arith, one_at_least 40 size (get_or legal_sizes 2 []) refl (rw e at legal))

  pub ring_inside : id ≡ 5 → length additional ≡ 4
  unfolding legal_sizes
  ring_inside e = omega (arith, eqb-true size 12 (legal_one 5 size 12 refl ∙ rw e at legal))

-- The first ten bytes, and the shape
module _ (w : List ℕ) where
  pub head_is : {tag : List ℕ} → tag ≡ take tag_size (drop 2 w) → request (record { id = get_or w 0 0; size = get_or w 1 0; tag = tag }) (drop head_size w) ≡ parsed w
  unfolding parsed
  head_is e = ap (λ (t : List ℕ). request (record { id = get_or w 0 0; size = get_or w 1 0; tag = t }) (drop head_size w)) e

  pub shape_short : length w < 2 → shape_legal w ≡ false
  unfolding shape_legal
  shape_short h = and_fails_left _ (lt-leb 2 (length w) h)

  pub shape_sized : {legal : Bool} → 2 ≤ length w → legal ≡ size_legal (get_or w 0 0) (get_or w 1 0) → legal ≡ true
      → shape_legal w ≡ eqb (length w) (get_or w 1 0 + 2)
  unfolding shape_legal
  shape_sized h e met = rw (le-leb 2 (length w) h, ← e, met)

  pub shape_unsized : {legal : Bool} → 2 ≤ length w → legal ≡ size_legal (get_or w 0 0) (get_or w 1 0) → legal ≡ false → shape_legal w ≡ false
  unfolding shape_legal
  shape_unsized h e unmet = rw (le-leb 2 (length w) h, ← e, unmet)

  module _ (h : shape_legal w ≡ true) where
    pub sizes_legal : size_legal (get_or w 0 0) (get_or w 1 0) ≡ true
    unfolding shape_legal
    sizes_legal = and_left _ _ (and_right (leb 2 (length w)) _ h)

    pub length_is : length w ≡ get_or w 1 0 + 2
    unfolding shape_legal
    length_is = eqb-true _ _ (and_right (size_legal (get_or w 0 0) (get_or w 1 0)) _ (and_right (leb 2 (length w)) _ h))

    pub head_inside : head_size ≤ length w
    head_inside = omega (arith, length_is, least_size (get_or w 0 0) (get_or w 1 0) sizes_legal)
