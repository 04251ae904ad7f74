-- A key that a search of a table finds is one of its rows, and a row has a place.
use Prim.Native.Nat.{ℕ, suc, ◌<◌}
use mathlib.Core.Path.{◌≡◌}
use mathlib.Core.Bool.{Bool, true, false, cond, ◌||◌, false≢true}
use mathlib.Core.List.{List, [], ◌∷◌}
use mathlib.Core.Option.{some}
use native.Mathlib.Omega.{arith}
use lib.ListN.{length}
use Rattle.laws.specs.Bytes.{same_bytes}
use Rattle.laws.proofs.Flags.{or_left, or_right}
use Rattle.laws.proofs.Same.{same_refl}
use Rattle.tables.specs.Rows.{among, first_that, place_of}

pub first_among : (p : List ℕ → Bool) (l : List (List ℕ)) (k : List ℕ) → first_that p l ≡ some k → among k l ≡ true
unfolding first_that among
first_among p [] k e = cc
first_among p (x ∷ xs) k e = go (p x) e (first_among p xs k)
  where
    go : (b : Bool) → cond b (some x) (first_that p xs) ≡ some k → (first_that p xs ≡ some k → among k xs ≡ true) → same_bytes k x || among k xs ≡ true
    go true h later = let same : x ≡ k = cc in or_left {a = same_bytes k x} (among k xs) (rw same (same_refl k))
    go false h later = or_right (same_bytes k x) (later h)

pub place_below : (k : List ℕ) (l : List (List ℕ)) → among k l ≡ true → place_of k l < length l
unfolding among place_of
place_below k [] h = absurd (false≢true h)
place_below k (x ∷ xs) h = go (same_bytes k x) h (place_below k xs)
  where
    go : (b : Bool) → b || among k xs ≡ true → (among k xs ≡ true → place_of k xs < length xs) → cond b 0 (suc (place_of k xs)) < suc (length xs)
    go true h later = omega arith
    go false h later = let below = later h in omega arith
