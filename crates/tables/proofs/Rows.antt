-- Laws of tables: what stands at a place, how the loops decide their tests place by place, what one more row at the end does, and that in a
-- table without equal rows bytes and places say the same.
use Prim.Native.Nat.{ℕ, zero, suc, ◌+◌, ◌*◌, ◌-◌, ◌≤◌, ◌<◌}
use mathlib.Core.Path.{◌≡◌, refl, ap, ◌∙◌}
use mathlib.Core.Bool.{Bool, true, false, not}
use mathlib.Core.List.{List, [], ◌∷◌, ◌++◌}
use mathlib.Core.Option.{some, none}
use native.Mathlib.Nat.{suc-mul, zero-mul, mul-le-mul_right, zero-add, suc-add}
use native.Mathlib.Numerals.{add-one}
use native.Mathlib.Omega.{arith}
use lib.ListN.{length, get_or, take, drop, length-drop, drop_of_length-le}
use lib.Seq.{drop-cons, drop-drop, take_at, drop_at, take-append-le, drop-append-le, length-take-le, take-take, take-nil, drop-nil}
use Rattle.laws.specs.Bytes.{same_bytes}
use Rattle.laws.proofs.Flags.{and_left, and_right, both, or_left, or_right, or_fails_left, or_fails_right, fails, clash}
use Rattle.laws.proofs.Same.{same_refl, same_equal, same_sym}
use Rattle.octets.specs.Put.{pasted}
use Rattle.tables.specs.Rows.{rows, among, distinct, first_that, place_of}

pub length_rows : (width count : ℕ) (table : List ℕ) → length (rows width count table) ≡ count
unfolding rows
length_rows width zero table = refl
length_rows width (suc count) table = ap suc (length_rows width count (drop width table))

-- the room that a row takes in a table that has room for its count
pub row_ends : (width count place : ℕ) → place < count → place * width + width ≤ count * width
row_ends width count place h =
    let most : suc place * width ≤ count * width = mul-le-mul_right width h in
    omega (arith, suc-mul place width)

-- the row at a place, as the code reads it
pub row_at : (width count : ℕ) (table : List ℕ) (place : ℕ) → place < count
    → get_or (rows width count table) place [] ≡ take width (drop (place * width) table)
unfolding rows
row_at width zero table place h = absurd (omega arith)
row_at width (suc count) table zero h = rw (zero-mul width)
row_at width (suc count) table (suc place) h =
    let next : width + place * width ≡ suc place * width = omega (arith, suc-mul place width) in
    row_at width count (drop width table) place (omega arith)
    ∙ ap (take width) (drop-drop (place * width) width table)
    ∙ ap (λ (n : ℕ). take width (drop n table)) next

pub length_row : (width count : ℕ) (table : List ℕ) (place : ℕ) → place < count → count * width ≤ length table
    → length (get_or (rows width count table) place []) ≡ width
length_row width count table place h f =
    let enough : width ≤ length (drop (place * width) table)
    = omega (arith, length-drop (place * width) table, row_ends width count place h) in
    ap length (row_at width count table place h) ∙ length-take-le width (drop (place * width) table) enough

-- What is distinct is so from every place on
distinct_from : (l : List (List ℕ)) (i : ℕ) → distinct l ≡ true → distinct (drop i l) ≡ true
unfolding distinct
distinct_from l zero d = d
distinct_from [] (suc i) d = d
distinct_from (k ∷ ks) (suc i) d = distinct_from ks i (and_right (not (among k ks)) _ d)

-- The row at a place decides, or leaves it to the places after it
module _ (l : List (List ℕ)) (i : ℕ) (h : i < length l) where
  from_place : drop i l ≡ get_or l i [] ∷ drop (i + 1) l
  from_place = rw (drop-cons l i [] h, add-one i)

  pub among_next : (k : List ℕ) → same_bytes k (get_or l i []) ≡ false → among k (drop i l) ≡ among k (drop (i + 1) l)
  unfolding among
  among_next k e = rw (from_place, e)

  pub among_stop : (k : List ℕ) → same_bytes k (get_or l i []) ≡ true → among k (drop i l) ≡ true
  unfolding among
  among_stop k e = rw (from_place, e)

  pub distinct_next : among (get_or l i []) (drop (i + 1) l) ≡ false → distinct (drop (i + 1) l) ≡ true → distinct (drop i l) ≡ true
  unfolding distinct
  distinct_next e d = rw from_place (both (ap not e) d)

  pub distinct_stop : among (get_or l i []) (drop (i + 1) l) ≡ true → distinct l ≡ false
  unfolding distinct
  distinct_stop e =
      fails (distinct l)
      (λ d.
      let here = rw from_place at (distinct_from l i d) in
      clash (and_left _ _ here) (ap not e))

pub among_end : (k : List ℕ) (l : List (List ℕ)) (i : ℕ) → length l ≤ i → among k (drop i l) ≡ false
unfolding among
among_end k l i h = rw (drop_of_length-le l h)

pub distinct_end : (l : List (List ℕ)) (i : ℕ) → length l ≤ i → distinct (drop i l) ≡ true
unfolding distinct
distinct_end l i h = rw (drop_of_length-le l h)

-- The first row that a test holds of
module _ (p : List ℕ → Bool) (l : List (List ℕ)) (i : ℕ) where
  pub first_next : i < length l → p (get_or l i []) ≡ false → first_that p (drop i l) ≡ first_that p (drop (i + 1) l)
  unfolding first_that
  first_next h unmet = rw (from_place l i h, unmet)

  pub first_here : i < length l → p (get_or l i []) ≡ true → first_that p (drop i l) ≡ some (get_or l i [])
  unfolding first_that
  first_here h met = rw (from_place l i h, met)

  pub first_end : length l ≤ i → first_that p (drop i l) ≡ none
  unfolding first_that
  first_end h = rw (drop_of_length-le l h)

-- Fewer rows, of a table or of its front
pub drop_take : (n m : ℕ) (l : List ℕ) → drop n (take (n + m) l) ≡ take m (drop n l)
drop_take zero m l = rw (zero-add m)
drop_take (suc n) m [] = rw (take-nil (suc n + m), drop-nil (suc n), take-nil m)
drop_take (suc n) m (x ∷ xs) = rw (suc-add n m) (drop_take n m xs)

pub rows_take : (width count size : ℕ) (table : List ℕ) → count * width ≤ size → rows width count (take size table) ≡ rows width count table
unfolding rows
rows_take width zero size table h = refl
rows_take width (suc count) size table h =
    let next : suc count * width ≡ width + count * width = omega (arith, suc-mul count width) in
    let rest : size ≡ width + (size - width) = omega arith in
    let here = take-take width size table (omega arith) in
    let behind : drop width (take size table) ≡ take (size - width) (drop width table)
    = ap (λ (n : ℕ). drop width (take n table)) rest ∙ drop_take width (size - width) table in
    rw (here, behind) (ap (λ (r : List (List ℕ)). take width table ∷ r) (rows_take width count (size - width) (drop width table) (omega arith)))

pub rows_fewer : (width fewer count : ℕ) (table : List ℕ) → fewer ≤ count → rows width fewer table ≡ take fewer (rows width count table)
unfolding rows
rows_fewer width zero count table h = refl
rows_fewer width (suc fewer) zero table h = absurd (omega arith)
rows_fewer width (suc fewer) (suc count) table h =
    ap (λ (r : List (List ℕ)). take width table ∷ r) (rows_fewer width fewer count (drop width table) (omega arith))

pub among_take : (k : List ℕ) (n : ℕ) (l : List (List ℕ)) → among k l ≡ false → among k (take n l) ≡ false
unfolding among
among_take k zero l h = refl
among_take k (suc n) [] h = refl
among_take k (suc n) (x ∷ xs) h = rw (or_fails_left (same_bytes k x) (among k xs) h) (among_take k n xs (or_fails_right (same_bytes k x) (among k xs) h))

pub distinct_take : (n : ℕ) (l : List (List ℕ)) → distinct l ≡ true → distinct (take n l) ≡ true
unfolding distinct
distinct_take zero l d = refl
distinct_take (suc n) [] d = refl
distinct_take (suc n) (k ∷ ks) d =
    let other : among k ks ≡ false = fails (among k ks) (λ e. clash (and_left _ _ d) (ap not e)) in
    both (ap not (among_take k n ks other)) (distinct_take n ks (and_right (not (among k ks)) _ d))

-- A row put right behind those that are there
pasted_later : (width at : ℕ) (table bytes : List ℕ) → width + at ≤ length table
    → drop width (pasted table (width + at) bytes) ≡ pasted (drop width table) at bytes
pasted_later width at table bytes h =
    let front : width ≤ length (take (width + at) table) = omega (arith, length-take-le (width + at) table h) in
    let places : width + at + length bytes ≡ width + (at + length bytes) = omega arith in
    drop-append-le width (take (width + at) table) (bytes ++ drop (width + at + length bytes) table) front
    ∙ rw (drop_take width at table, drop-drop (at + length bytes) width table, places)

pub rows_added : (width count : ℕ) (table bytes : List ℕ) → length bytes ≡ width → count * width + width ≤ length table
    → rows width (suc count) (pasted table (count * width) bytes) ≡ rows width count table ++ (bytes ∷ [])
unfolding rows
rows_added width zero table bytes e h =
    rw (zero-mul width) (ap (λ (r : List ℕ). r ∷ []) (take_at bytes (drop (0 + length bytes) table) width e))
rows_added width (suc count) table bytes e h =
    let next : suc count * width ≡ width + count * width = omega (arith, suc-mul count width) in
    let room : width + count * width + width ≤ length table = omega arith in
    let fits : width + count * width ≤ length table = omega arith in
    let front : width ≤ length (take (width + count * width) table) = omega (arith, length-take-le (width + count * width) table fits) in
    let first : take width (pasted table (width + count * width) bytes) ≡ take width table
    = take-append-le width (take (width + count * width) table) _ front ∙ take-take width (width + count * width) table (omega arith) in
    rw (next, first, pasted_later width (count * width) table bytes fits)
    (ap (λ (r : List (List ℕ)). take width table ∷ r)
    (rows_added width count (drop width table) bytes e (omega (arith, length-drop width table))))

-- One more row that is not among the others
not_first : (k x : List ℕ) (xs : List (List ℕ)) → among k (x ∷ xs) ≡ false → same_bytes x k ≡ false
unfolding among
not_first k x xs h = same_sym x k ∙ or_fails_left (same_bytes k x) (among k xs) h

not_rest : (k x : List ℕ) (xs : List (List ℕ)) → among k (x ∷ xs) ≡ false → among k xs ≡ false
unfolding among
not_rest k x xs h = or_fails_right (same_bytes k x) (among k xs) h

pub among_last : (k : List ℕ) (l : List (List ℕ)) → among k (l ++ (k ∷ [])) ≡ true
unfolding among
among_last k [] = or_left _ (same_refl k)
among_last k (y ∷ ys) = or_right (same_bytes k y) (among_last k ys)

among_append : (x k : List ℕ) (l : List (List ℕ)) → same_bytes x k ≡ false → among x (l ++ (k ∷ [])) ≡ among x l
unfolding among
among_append x k [] h = rw h
among_append x k (y ∷ ys) h = rw (among_append x k ys h)

pub distinct_append : (k : List ℕ) (l : List (List ℕ)) → distinct l ≡ true → among k l ≡ false → distinct (l ++ (k ∷ [])) ≡ true
unfolding distinct among
distinct_append k [] d h = refl
distinct_append k (x ∷ xs) d h =
    both (ap not (among_append x k xs (not_first k x xs h)) ∙ and_left _ _ d)
    (distinct_append k xs (and_right (not (among x xs)) _ d) (not_rest k x xs h))

-- A row that is there is among the rows, and in a table without equal rows its place is the only one that has its bytes
pub among_place : (l : List (List ℕ)) (i : ℕ) → i < length l → among (get_or l i []) l ≡ true
unfolding among
among_place [] i h = absurd (omega arith)
among_place (k ∷ ks) zero h = or_left _ (same_refl k)
among_place (k ∷ ks) (suc i) h = or_right (same_bytes (get_or ks i []) k) (among_place ks i (omega arith))

not_same : (k : List ℕ) (ks : List (List ℕ)) (x : List ℕ) → among k ks ≡ false → among x ks ≡ true → same_bytes x k ≡ false
not_same k ks x e f = fails (same_bytes x k) (λ s. clash (rw (same_equal x k s) at f) e)

pub place_at : (l : List (List ℕ)) (i : ℕ) → distinct l ≡ true → i < length l → place_of (get_or l i []) l ≡ i
unfolding distinct place_of
place_at [] i d h = absurd (omega arith)
place_at (k ∷ ks) zero d h = rw (same_refl k)
place_at (k ∷ ks) (suc i) d h =
    let other : among k ks ≡ false = fails (among k ks) (λ e. clash (and_left _ _ d) (ap not e)) in
    rw (not_same k ks (get_or ks i []) other (among_place ks i (omega arith)))
    (ap suc (place_at ks i (and_right (not (among k ks)) _ d) (omega arith)))

-- A row put first in place of another
abbrev pub others : ℕ → List (List ℕ) → List (List ℕ)
others place l = take place l ++ drop (suc place) l

rows_others : (width count place : ℕ) (table : List ℕ) → place ≤ count → suc count * width ≤ length table
    → rows width count (take (place * width) table ++ drop (suc place * width) table) ≡ others place (rows width (suc count) table)
unfolding rows
rows_others width count zero table h f = rw (zero-mul width, suc-mul 0 width, zero-mul width, zero-add width)
rows_others width zero (suc place) table h f = absurd (omega arith)
rows_others width (suc count) (suc place) table h f =
    let here : suc place * width ≡ width + place * width = omega (arith, suc-mul place width) in
    let next : suc (suc place) * width ≡ width + suc place * width = omega (arith, suc-mul (suc place) width) in
    let all : suc (suc count) * width ≡ width + suc count * width = omega (arith, suc-mul (suc count) width) in
    let most : suc place * width ≤ suc count * width = mul-le-mul_right width h in
    let fits : width + place * width ≤ length table = omega arith in
    let front : width ≤ length (take (width + place * width) table) = omega (arith, length-take-le (width + place * width) table fits) in
    let first : take width (take (width + place * width) table ++ drop (width + suc place * width) table) ≡ take width table
    = take-append-le width (take (width + place * width) table) _ front ∙ take-take width (width + place * width) table (omega arith) in
    let rest : drop width (take (width + place * width) table ++ drop (width + suc place * width) table)
    ≡ take (place * width) (drop width table) ++ drop (suc place * width) (drop width table)
    = drop-append-le width (take (width + place * width) table) (drop (width + suc place * width) table) front
    ∙ rw (drop_take width (place * width) table, drop-drop (suc place * width) width table) in
    rw (here, next, first, rest)
    (ap (λ (r : List (List ℕ)). take width table ∷ r)
    (rows_others width count place (drop width table) (omega arith) (omega (arith, length-drop width table))))

pub rows_first : (width count place : ℕ) (table row : List ℕ) → length row ≡ width → place ≤ count → suc count * width ≤ length table
    → rows width (suc count) (row ++ (take (place * width) table ++ drop (suc place * width) table)) ≡ row ∷ others place (rows width (suc count) table)
unfolding rows
rows_first width count place table row e h f =
    rw (take_at row (take (place * width) table ++ drop (suc place * width) table) width e, drop_at row (take (place * width) table ++ drop (suc place * width) table) width e)
    (ap (λ (r : List (List ℕ)). row ∷ r) (rows_others width count place table h f))

-- what is not among rows is not among fewer of them, and what is distinct stays so
pub among_others : (k : List ℕ) (place : ℕ) (l : List (List ℕ)) → among k l ≡ false → among k (others place l) ≡ false
unfolding among
among_others k place [] h = rw (take-nil place)
among_others k zero (x ∷ xs) h = not_rest k x xs h
among_others k (suc place) (x ∷ xs) h =
    rw (or_fails_left (same_bytes k x) (among k xs) h) (among_others k place xs (not_rest k x xs h))

pub distinct_others : (place : ℕ) (l : List (List ℕ)) → distinct l ≡ true → distinct (others place l) ≡ true
unfolding distinct
distinct_others place [] d = rw (take-nil place)
distinct_others zero (k ∷ ks) d = and_right (not (among k ks)) _ d
distinct_others (suc place) (k ∷ ks) d =
    let other : among k ks ≡ false = fails (among k ks) (λ e. clash (and_left _ _ d) (ap not e)) in
    both (ap not (among_others k place ks other)) (distinct_others place ks (and_right (not (among k ks)) _ d))

pub not_among_others : (place : ℕ) (l : List (List ℕ)) → distinct l ≡ true → place < length l → among (get_or l place []) (others place l) ≡ false
unfolding distinct among
not_among_others place [] d h = absurd (omega arith)
not_among_others zero (k ∷ ks) d h = fails (among k ks) (λ e. clash (and_left _ _ d) (ap not e))
not_among_others (suc place) (k ∷ ks) d h =
    let other : among k ks ≡ false = fails (among k ks) (λ e. clash (and_left _ _ d) (ap not e)) in
    rw (not_same k ks (get_or ks place []) other (among_place ks place (omega arith)))
    (not_among_others place ks (and_right (not (among k ks)) _ d) (omega arith))

-- where the other rows stand
pub others_before : (place i : ℕ) (l : List (List ℕ)) → i < place → place < length l → get_or (others place l) i [] ≡ get_or l i []
others_before place i [] h k = absurd (omega arith)
others_before zero i (x ∷ xs) h k = absurd (omega arith)
others_before (suc place) zero (x ∷ xs) h k = refl
others_before (suc place) (suc i) (x ∷ xs) h k = others_before place i xs (omega arith) (omega arith)

pub others_behind_lem : (place i : ℕ) (l : List (List ℕ)) → place ≤ i → get_or (others place l) i [] ≡ get_or l (suc i) []
others_behind_lem place i [] h = rw (take-nil place)
others_behind_lem zero i (x ∷ xs) h = refl
others_behind_lem (suc place) zero (x ∷ xs) h = absurd (omega arith)
others_behind_lem (suc place) (suc i) (x ∷ xs) h = others_behind_lem place i xs (omega arith)
