-- Tables of rows of one width, in one list of bytes: which rows there are, and what is said of them.
use Rattle.std.specs.Prelude.{ℕ, zero, suc, Bool, true, false, cond, not, ◌&&◌, ◌||◌, List, [], ◌∷◌, take, drop}
use Rattle.std.proofs.Math.Option.{Option, some, none}
use Rattle.laws.specs.Bytes.{same_bytes}

-- the first `count` rows of a table, in order
unfoldable pub rows : ℕ → ℕ → List ℕ → List (List ℕ)
rows width zero table = []
rows width (suc count) table = take width table ∷ rows width count (drop width table)

-- whether bytes are one of these rows
unfoldable pub among : List ℕ → List (List ℕ) → Bool
among k [] = false
among k (x ∷ xs) = same_bytes k x || among k xs

-- whether no two rows are equal
unfoldable pub distinct : List (List ℕ) → Bool
distinct [] = true
distinct (k ∷ ks) = not (among k ks) && distinct ks

-- the first row that a test holds of, if there is one
unfoldable pub first_that : (List ℕ → Bool) → List (List ℕ) → Option (List ℕ)
first_that p [] = none
first_that p (k ∷ ks) = cond (p k) (some k) (first_that p ks)

-- the place of the first row with these bytes; the count of the rows where there is none
unfoldable pub place_of : List ℕ → List (List ℕ) → ℕ
place_of k [] = 0
place_of k (x ∷ xs) = cond (same_bytes k x) 0 (suc (place_of k xs))
