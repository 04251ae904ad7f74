-- Of keys in order of last use, the owner and the first others: what a use, an arrival and a new owner make of them.
use Prim.Native.Nat.{ℕ, zero, suc, ◌≤◌, ◌<◌}
use mathlib.Core.Path.{◌≡◌, refl, sym, ap, ◌∙◌}
use mathlib.Core.Bool.{Bool, true, false, cond, not, false≢true}
use mathlib.Core.List.{List, [], ◌∷◌, ◌++◌, append-nil}
use mathlib.Core.Option.{Option, some, none}
use mathlib.Core.Logic.{◌⊎◌, inl, inr}
use native.Mathlib.Omega.{arith}
use lib.ListN.{length, get_or, take, drop_of_length-le}
use Rattle.laws.specs.Bytes.{same_bytes}
use Rattle.laws.proofs.Flags.{true_or_false, and_left, and_right, or_fails_left, or_fails_right, fails, clash}
use Rattle.laws.proofs.Same.{same_refl, same_equal}
use Rattle.tables.specs.Rows.{among, distinct, place_of}
use Rattle.tables.proofs.Rows.{others, among_others, distinct_others, not_among_others, among_place}
use Rattle.account_keys.proofs.Order.{place_found}
use Rattle.demanded_keys.specs.KeysByUse.{without, is_owner, first_others}

-- What one row more makes of the two, by its tests
module _ (k x : List ℕ) (xs : List (List ℕ)) where
  without_here : same_bytes k x ≡ true → without k (x ∷ xs) ≡ xs
  unfolding without
  without_here e = rw e

  without_next : same_bytes k x ≡ false → without k (x ∷ xs) ≡ x ∷ without k xs
  unfolding without
  without_next e = rw e

  among_here : same_bytes k x ≡ true → among k (x ∷ xs) ≡ true
  unfolding among
  among_here e = rw e

  among_next : same_bytes k x ≡ false → among k (x ∷ xs) ≡ among k xs
  unfolding among
  among_next e = rw e

module _ (o : Option (List ℕ)) (x : List ℕ) (xs : List (List ℕ)) where
  first_owner : (n : ℕ) → is_owner o x ≡ true → first_others n o (x ∷ xs) ≡ x ∷ first_others n o xs
  unfolding first_others
  first_owner zero e = rw e
  first_owner (suc n) e = rw e

  first_other : (n : ℕ) → is_owner o x ≡ false → first_others (suc n) o (x ∷ xs) ≡ x ∷ first_others n o xs
  unfolding first_others
  first_other n e = rw e

  first_none : is_owner o x ≡ false → first_others zero o (x ∷ xs) ≡ first_others zero o xs
  unfolding first_others
  first_none e = rw e

first_nil : (n : ℕ) (o : Option (List ℕ)) → first_others n o [] ≡ []
unfolding first_others
first_nil n o = refl

first_of : (x : List ℕ) {l m : List (List ℕ)} → l ≡ m → x ∷ l ≡ x ∷ m
first_of x e = ap (λ (r : List (List ℕ)). x ∷ r) e

abbrev Either : Bool → Type 0
Either b = (b ≡ true) ⊎ (b ≡ false)

-- Rows without one are the others of its place
pub others_without : (k : List ℕ) (l : List (List ℕ)) → others (place_of k l) l ≡ without k l
unfolding place_of without
others_without k [] = refl
others_without k (x ∷ xs) = go (true_or_false (same_bytes k x)) (others_without k xs)
  where
    go : Either (same_bytes k x) → others (place_of k xs) xs ≡ without k xs
        → others (cond (same_bytes k x) 0 (suc (place_of k xs))) (x ∷ xs) ≡ cond (same_bytes k x) xs (x ∷ without k xs)
    go (inl e) later = rw e
    go (inr e) later = rw e (first_of x later)

pub gone : (k : List ℕ) (l : List (List ℕ)) → distinct l ≡ true → among k (without k l) ≡ false
gone k l d = rw (sym (others_without k l)) (go (true_or_false (among k l)))
  where
    go : Either (among k l) → among k (others (place_of k l) l) ≡ false
    go (inl e) =
        let found = place_found k l e in
        rw found.1 at (not_among_others (place_of k l) l d found.0)
    go (inr e) = among_others k (place_of k l) l e

pub distinct_without : (k : List ℕ) (l : List (List ℕ)) → distinct l ≡ true → distinct (without k l) ≡ true
distinct_without k l d = rw (sym (others_without k l)) (distinct_others (place_of k l) l d)

-- A use of the owner's key
owner_used : (n : ℕ) (o : List ℕ) (l : List (List ℕ)) → first_others n (some o) (without o l) ≡ without o (first_others n (some o) l)
unfolding first_others without
owner_used zero o [] = refl
owner_used (suc n) o [] = refl
owner_used zero o (x ∷ xs) = go (true_or_false (same_bytes o x)) (owner_used zero o xs)
  where
    go : Either (same_bytes o x) → first_others zero (some o) (without o xs) ≡ without o (first_others zero (some o) xs)
        → first_others zero (some o) (without o (x ∷ xs)) ≡ without o (first_others zero (some o) (x ∷ xs))
    go (inl e) later =
        ap (first_others zero (some o)) (without_here o x xs e)
        ∙ sym (ap (without o) (first_owner (some o) x xs zero e) ∙ without_here o x (first_others zero (some o) xs) e)
    go (inr e) later =
        ap (first_others zero (some o)) (without_next o x xs e)
        ∙ first_none (some o) x (without o xs) e
        ∙ later
        ∙ sym (ap (without o) (first_none (some o) x xs e))
owner_used (suc n) o (x ∷ xs) = go (true_or_false (same_bytes o x)) (owner_used n o xs)
  where
    go : Either (same_bytes o x) → first_others n (some o) (without o xs) ≡ without o (first_others n (some o) xs)
        → first_others (suc n) (some o) (without o (x ∷ xs)) ≡ without o (first_others (suc n) (some o) (x ∷ xs))
    go (inl e) later =
        ap (first_others (suc n) (some o)) (without_here o x xs e)
        ∙ sym (ap (without o) (first_owner (some o) x xs (suc n) e) ∙ without_here o x (first_others (suc n) (some o) xs) e)
    go (inr e) later =
        ap (first_others (suc n) (some o)) (without_next o x xs e)
        ∙ first_other (some o) x (without o xs) n e
        ∙ first_of x later
        ∙ sym (ap (without o) (first_other (some o) x xs n e) ∙ without_next o x (first_others n (some o) xs) e)

-- no other is among the first none
nobody_else : (o : Option (List ℕ)) (k : List ℕ) (l : List (List ℕ)) → is_owner o k ≡ false → among k (first_others zero o l) ≡ false
unfolding first_others among
nobody_else o k [] other = refl
nobody_else o k (x ∷ xs) other = go (true_or_false (is_owner o x)) (nobody_else o k xs other)
  where
    differs : is_owner o x ≡ true → same_bytes k x ≡ false
    differs e = fails (same_bytes k x) (λ s. clash (rw (sym (same_equal k x s)) at e) other)

    go : Either (is_owner o x) → among k (first_others zero o xs) ≡ false → among k (first_others zero o (x ∷ xs)) ≡ false
    go (inl e) later = ap (among k) (first_owner o x xs zero e) ∙ among_next k x (first_others zero o xs) (differs e) ∙ later
    go (inr e) later = ap (among k) (first_none o x xs e) ∙ later

module _ (o : Option (List ℕ)) (k : List ℕ) (other : is_owner o k ≡ false) where
  not_owner : (x : List ℕ) → same_bytes k x ≡ true → is_owner o x ≡ false
  not_owner x s = rw (sym (same_equal k x s)) other

  -- what is among the first is, or is not, among those behind a row
  behind_owner : (n : ℕ) (x : List ℕ) (xs : List (List ℕ)) {b : Bool} → is_owner o x ≡ true → same_bytes k x ≡ false
      → among k (first_others n o (x ∷ xs)) ≡ b → among k (first_others n o xs) ≡ b
  behind_owner n x xs e s h = sym (ap (among k) (first_owner o x xs n e) ∙ among_next k x (first_others n o xs) s) ∙ h

  behind_other : (n : ℕ) (x : List ℕ) (xs : List (List ℕ)) {b : Bool} → is_owner o x ≡ false → same_bytes k x ≡ false
      → among k (first_others (suc n) o (x ∷ xs)) ≡ b → among k (first_others n o xs) ≡ b
  behind_other n x xs e s h = sym (ap (among k) (first_other o x xs n e) ∙ among_next k x (first_others n o xs) s) ∙ h

  abbrev Used : ℕ → List (List ℕ) → Type 0
  Used n l = among k (first_others (suc n) o l) ≡ true → first_others n o (without k l) ≡ without k (first_others (suc n) o l)

  -- A use of another's: one row of the first goes
  used_owner : (n : ℕ) (x : List ℕ) (xs : List (List ℕ)) → is_owner o x ≡ true → same_bytes k x ≡ false → Used n xs → Used n (x ∷ xs)
  used_owner n x xs e s later held =
      ap (first_others n o) (without_next k x xs s)
      ∙ first_owner o x (without k xs) n e
      ∙ first_of x (later (behind_owner (suc n) x xs e s held))
      ∙ sym (ap (without k) (first_owner o x xs (suc n) e) ∙ without_next k x (first_others (suc n) o xs) s)

  used_here : (n : ℕ) (x : List ℕ) (xs : List (List ℕ)) → same_bytes k x ≡ true → Used n (x ∷ xs)
  used_here n x xs s held =
      ap (first_others n o) (without_here k x xs s)
      ∙ sym (ap (without k) (first_other o x xs n (not_owner x s)) ∙ without_here k x (first_others n o xs) s)

  other_used : (n : ℕ) (l : List (List ℕ)) → Used n l
  unfolding first_others among
  other_used zero [] held = absurd (false≢true held)
  other_used (suc n) [] held = absurd (false≢true held)
  other_used zero (x ∷ xs) held = go (true_or_false (same_bytes k x)) (true_or_false (is_owner o x)) (other_used zero xs) held
    where
      go : Either (same_bytes k x) → Either (is_owner o x) → Used zero xs → Used zero (x ∷ xs)
      go (inl s) w later h = used_here zero x xs s h
      go (inr s) (inl e) later h = used_owner zero x xs e s later h
      go (inr s) (inr e) later h = absurd (clash (behind_other zero x xs e s h) (nobody_else o k xs other))
  other_used (suc n) (x ∷ xs) held = go (true_or_false (same_bytes k x)) (true_or_false (is_owner o x)) (other_used (suc n) xs) (other_used n xs) held
    where
      go : Either (same_bytes k x) → Either (is_owner o x) → Used (suc n) xs → Used n xs → Used (suc n) (x ∷ xs)
      go (inl s) w later less h = used_here (suc n) x xs s h
      go (inr s) (inl e) later less h = used_owner (suc n) x xs e s later h
      go (inr s) (inr e) later less h =
          ap (first_others (suc n) o) (without_next k x xs s)
          ∙ first_other o x (without k xs) n e
          ∙ first_of x (less (behind_other (suc n) x xs e s h))
          ∙ sym (ap (without k) (first_other o x xs (suc n) e) ∙ without_next k x (first_others (suc n) o xs) s)

  -- An arrival: without a key that is not among one more of the first, the first are the same
  abbrev New : ℕ → List (List ℕ) → Type 0
  New n l = among k (first_others (suc n) o l) ≡ false → first_others n o (without k l) ≡ first_others n o l

  passed_over : (l : List (List ℕ)) → first_others zero o (without k l) ≡ first_others zero o l
  unfolding first_others without
  passed_over [] = refl
  passed_over (x ∷ xs) = go (true_or_false (same_bytes k x)) (true_or_false (is_owner o x)) (passed_over xs)
    where
      go : Either (same_bytes k x) → Either (is_owner o x) → first_others zero o (without k xs) ≡ first_others zero o xs
          → first_others zero o (without k (x ∷ xs)) ≡ first_others zero o (x ∷ xs)
      go (inl s) w later = ap (first_others zero o) (without_here k x xs s) ∙ sym (first_none o x xs (not_owner x s))
      go (inr s) (inl e) later =
          ap (first_others zero o) (without_next k x xs s) ∙ first_owner o x (without k xs) zero e ∙ first_of x later ∙ sym (first_owner o x xs zero e)
      go (inr s) (inr e) later =
          ap (first_others zero o) (without_next k x xs s) ∙ first_none o x (without k xs) e ∙ later ∙ sym (first_none o x xs e)

  new_among : (n : ℕ) (l : List (List ℕ)) → New n l
  unfolding without
  new_among zero l absent = passed_over l
  new_among (suc n) [] absent = refl
  new_among (suc n) (x ∷ xs) absent = go (true_or_false (same_bytes k x)) (true_or_false (is_owner o x)) (new_among (suc n) xs) (new_among n xs) absent
    where
      go : Either (same_bytes k x) → Either (is_owner o x) → New (suc n) xs → New n xs → New (suc n) (x ∷ xs)
      go (inl s) w later less h =
          absurd (clash (ap (among k) (first_other o x xs (suc n) (not_owner x s)) ∙ among_here k x (first_others (suc n) o xs) s) h)
      go (inr s) (inl e) later less h =
          ap (first_others (suc n) o) (without_next k x xs s)
          ∙ first_owner o x (without k xs) (suc n) e
          ∙ first_of x (later (behind_owner (suc (suc n)) x xs e s h))
          ∙ sym (first_owner o x xs (suc n) e)
      go (inr s) (inr e) later less h =
          ap (first_others (suc n) o) (without_next k x xs s)
          ∙ first_other o x (without k xs) n e
          ∙ first_of x (less (behind_other (suc n) x xs e s h))
          ∙ sym (first_other o x xs n e)

-- fewer of the first are the first of all
module _ (o : Option (List ℕ)) where
  abbrev Fewer : ℕ → ℕ → List (List ℕ) → Type 0
  Fewer m n l = first_others m o (first_others n o l) ≡ first_others m o l

  fewer_owner : (m n : ℕ) (x : List ℕ) (xs : List (List ℕ)) → is_owner o x ≡ true → Fewer m n xs → Fewer m n (x ∷ xs)
  fewer_owner m n x xs e later =
      ap (first_others m o) (first_owner o x xs n e) ∙ first_owner o x (first_others n o xs) m e ∙ first_of x later ∙ sym (first_owner o x xs m e)

  first_first : (m n : ℕ) (l : List (List ℕ)) → m ≤ n → Fewer m n l
  unfolding first_others
  first_first zero zero [] h = refl
  first_first zero (suc n) [] h = refl
  first_first (suc m) zero [] h = refl
  first_first (suc m) (suc n) [] h = refl
  first_first zero zero (x ∷ xs) h = go (true_or_false (is_owner o x)) (first_first zero zero xs h)
    where
      go : Either (is_owner o x) → Fewer zero zero xs → Fewer zero zero (x ∷ xs)
      go (inl e) later = fewer_owner zero zero x xs e later
      go (inr e) later = ap (first_others zero o) (first_none o x xs e) ∙ later ∙ sym (first_none o x xs e)
  first_first zero (suc n) (x ∷ xs) h = go (true_or_false (is_owner o x)) (first_first zero (suc n) xs h) (first_first zero n xs (omega arith))
    where
      go : Either (is_owner o x) → Fewer zero (suc n) xs → Fewer zero n xs → Fewer zero (suc n) (x ∷ xs)
      go (inl e) later less = fewer_owner zero (suc n) x xs e later
      go (inr e) later less =
          ap (first_others zero o) (first_other o x xs n e) ∙ first_none o x (first_others n o xs) e ∙ less ∙ sym (first_none o x xs e)
  first_first (suc m) zero (x ∷ xs) h = absurd (omega arith)
  first_first (suc m) (suc n) (x ∷ xs) h = go (true_or_false (is_owner o x)) (first_first (suc m) (suc n) xs h) (first_first m n xs (omega arith))
    where
      go : Either (is_owner o x) → Fewer (suc m) (suc n) xs → Fewer m n xs → Fewer (suc m) (suc n) (x ∷ xs)
      go (inl e) later less = fewer_owner (suc m) (suc n) x xs e later
      go (inr e) later less =
          ap (first_others (suc m) o) (first_other o x xs n e)
          ∙ first_other o x (first_others n o xs) m e
          ∙ first_of x less
          ∙ sym (first_other o x xs m e)

  -- of no more rows than that the first are all
  pub first_all : (n : ℕ) (l : List (List ℕ)) → length l ≤ n → first_others n o l ≡ l
  unfolding first_others
  first_all zero [] h = refl
  first_all (suc n) [] h = refl
  first_all zero (x ∷ xs) h = absurd (omega arith)
  first_all (suc n) (x ∷ xs) h = go (true_or_false (is_owner o x)) (first_all (suc n) xs (omega arith)) (first_all n xs (omega arith))
    where
      go : Either (is_owner o x) → first_others (suc n) o xs ≡ xs → first_others n o xs ≡ xs → first_others (suc n) o (x ∷ xs) ≡ x ∷ xs
      go (inl e) same less = first_owner o x xs (suc n) e ∙ first_of x same
      go (inr e) same less = first_other o x xs n e ∙ first_of x less

-- Without the owner among them they are the first rows
first_take : (n : ℕ) (l : List (List ℕ)) → first_others n none l ≡ take n l
unfolding first_others
first_take zero [] = refl
first_take (suc n) [] = refl
first_take zero (x ∷ xs) = first_take zero xs
first_take (suc n) (x ∷ xs) = first_of x (first_take n xs)

pub first_front : (n : ℕ) (l : List (List ℕ)) → length l ≡ suc n → first_others n none l ≡ others n l
first_front n l full =
    let past : length l ≤ suc n = omega arith in
    first_take n l ∙ sym (append-nil (take n l)) ∙ ap (λ (r : List (List ℕ)). take n l ++ r) (sym (drop_of_length-le l past))

first_absent : (n : ℕ) (o : List ℕ) (l : List (List ℕ)) → among o l ≡ false → first_others n (some o) l ≡ first_others n none l
unfolding first_others among
first_absent zero o [] h = refl
first_absent (suc n) o [] h = refl
first_absent zero o (x ∷ xs) h =
    first_none (some o) x xs (or_fails_left (same_bytes o x) (among o xs) h) ∙ first_absent zero o xs (or_fails_right (same_bytes o x) (among o xs) h)
first_absent (suc n) o (x ∷ xs) h =
    first_other (some o) x xs n (or_fails_left (same_bytes o x) (among o xs) h)
    ∙ first_of x (first_absent n o xs (or_fails_right (same_bytes o x) (among o xs) h))

-- a row that stands behind another of a list without equal ones is not that one
later_differs : (x : List ℕ) (xs : List (List ℕ)) (q : ℕ) → distinct (x ∷ xs) ≡ true → q < length xs → same_bytes (get_or xs q []) x ≡ false
unfolding distinct
later_differs x xs q d h =
    fails (same_bytes (get_or xs q []) x)
    (λ s.
    let here : among x xs ≡ true = rw (same_equal (get_or xs q []) x s) at (among_place xs q h) in
    clash (and_left _ _ d) (ap not here))

-- The owner at a place: of no more rows than one above that, the first are all
pub room_all : (n : ℕ) (l : List (List ℕ)) (q : ℕ) → q < length l → length l ≤ suc n → distinct l ≡ true → first_others n (some (get_or l q [])) l ≡ l
unfolding distinct
room_all n [] q h most d = absurd (omega arith)
room_all n (x ∷ xs) zero h most d = first_owner (some x) x xs n (same_refl x) ∙ first_of x (first_all (some x) n xs (omega arith))
room_all zero (x ∷ xs) (suc q) h most d = absurd (omega arith)
room_all (suc n) (x ∷ xs) (suc q) h most d =
    first_other (some (get_or xs q [])) x xs n (later_differs x xs q d (omega arith))
    ∙ first_of x (room_all n xs q (omega arith) (omega arith) (and_right (not (among x xs)) _ d))

-- of two rows above it, the last goes
pub last_goes : (n : ℕ) (l : List (List ℕ)) (q : ℕ) → q ≤ n → length l ≡ suc (suc n) → distinct l ≡ true → first_others n (some (get_or l q [])) l ≡ others (suc n) l
unfolding distinct
last_goes n [] q h full d = absurd (omega arith)
last_goes n (x ∷ xs) zero h full d =
    let absent : among x xs ≡ false = fails (among x xs) (λ e. clash (and_left _ _ d) (ap not e)) in
    first_owner (some x) x xs n (same_refl x) ∙ first_of x (first_absent n x xs absent ∙ first_front n xs (omega arith))
last_goes zero (x ∷ xs) (suc q) h full d = absurd (omega arith)
last_goes (suc n) (x ∷ xs) (suc q) h full d =
    first_other (some (get_or xs q [])) x xs n (later_differs x xs q d (omega arith))
    ∙ first_of x (last_goes n xs q (omega arith) (omega arith) (and_right (not (among x xs)) _ d))

-- or the one before it, where the last is the owner's
pub next_goes : (n : ℕ) (l : List (List ℕ)) → length l ≡ suc (suc n) → distinct l ≡ true → first_others n (some (get_or l (suc n) [])) l ≡ others n l
unfolding distinct
next_goes n [] full d = absurd (omega arith)
next_goes zero (x ∷ []) full d = absurd (omega arith)
next_goes zero (x ∷ y ∷ []) full d =
    first_none (some y) x (y ∷ []) (later_differs x (y ∷ []) 0 d (omega arith)) ∙ first_owner (some y) y [] zero (same_refl y) ∙ first_of y (first_nil zero (some y))
next_goes zero (x ∷ y ∷ z ∷ l) full d = absurd (omega arith)
next_goes (suc n) (x ∷ xs) full d =
    first_other (some (get_or xs (suc n) [])) x xs n (later_differs x xs (suc n) d (omega arith))
    ∙ first_of x (next_goes n xs (omega arith) (and_right (not (among x xs)) _ d))

-- A use of one of the first brings it before the others
pub used_first : (n : ℕ) (o : Option (List ℕ)) (k : List ℕ) (l : List (List ℕ)) → among k (first_others (suc n) o l) ≡ true
    → first_others (suc n) o (k ∷ without k l) ≡ k ∷ without k (first_others (suc n) o l)
used_first n none k l held = first_other none k (without k l) n refl ∙ first_of k (other_used none k refl n l held)
used_first n (some o) k l held = go (true_or_false (same_bytes o k))
  where
    go : Either (same_bytes o k) → first_others (suc n) (some o) (k ∷ without k l) ≡ k ∷ without k (first_others (suc n) (some o) l)
    go (inl e) =
        let is : o ≡ k = same_equal o k e in
        first_owner (some o) k (without k l) (suc n) e ∙ first_of k (rw is (owner_used (suc n) k l))
    go (inr e) = first_other (some o) k (without k l) n e ∙ first_of k (other_used (some o) k e n l held)

-- and one that becomes the owner then is no more one of the others
pub claimed_first : (n : ℕ) (k : List ℕ) (l : List (List ℕ)) → distinct l ≡ true → among k (first_others (suc n) none l) ≡ true
    → first_others n (some k) (k ∷ without k l) ≡ k ∷ without k (first_others (suc n) none l)
claimed_first n k l d held =
    first_owner (some k) k (without k l) n (same_refl k)
    ∙ first_of k (first_absent n k (without k l) (gone k l d) ∙ other_used none k refl n l held)

-- An arrival comes before the first of those that there were
pub new_first : (n : ℕ) (o : Option (List ℕ)) (k : List ℕ) (l : List (List ℕ)) → is_owner o k ≡ false → among k (first_others (suc n) o l) ≡ false
    → first_others (suc n) o (k ∷ without k l) ≡ k ∷ first_others n o (first_others (suc n) o l)
new_first n o k l other absent =
    first_other o k (without k l) n other ∙ first_of k (new_among o k other n l absent ∙ sym (first_first o n (suc n) l (omega arith)))
