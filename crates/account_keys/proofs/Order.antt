-- Laws of the order of use: which keys are held after a use and after an arrival, in which order; that the owner's key stays the same; and that
-- what is well formed stays so.
use Prim.Native.Nat.{ℕ, zero, suc, ◌+◌, ◌-◌, ◌*◌, ◌≤◌, ◌<◌}
use mathlib.Core.Path.{◌≡◌, refl, sym, ap, subst, ◌∙◌}
use mathlib.Core.Bool.{Bool, true, false, not, cond, false≢true}
use mathlib.Core.List.{List, [], ◌∷◌, ◌++◌, append-nil}
use mathlib.Core.Logic.{◌⊎◌, inl, inr}
use mathlib.Core.Option.{Option, some, none}
use native.Mathlib.Omega.{arith}
use native.Mathlib.Numerals.{add-one}
use lib.Dec.{eqb, ltb}
use lib.ListN.{length, get_or, take, drop, length-append, length-drop, drop_of_length-le}
use lib.Seq.{length-take-le, drop-append-add, drop-drop, take_all}
use borrow.Author.Tests.{eqb-true, eqb-false, ltb-true, ltb-false, lt-ltb, le-ltb, eq-eqb, ne_eqb}
use Rattle.std.specs.Prelude.{Some, None}
use Rattle.laws.specs.Bytes.{same_bytes, all_zero}
use Rattle.laws.proofs.Flags.{true_or_false, or_rest, both}
use Rattle.laws.proofs.Same.{same_equal, zeros_later}
use Rattle.sizes.specs.Sizes.{account_key_size, most_keys, keys_room}
use Rattle.tables.specs.Rows.{rows, among, distinct, place_of}
use Rattle.tables.proofs.Rows.{length_rows, length_row, rows_first, rows_fewer, others, among_others, distinct_others, not_among_others, others_before, others_behind_lem, place_at}
use Rattle.unit.specs.declared.Accounts.{Accounts}
use Rattle.unit.specs.Types.{Owner}
use Rattle.unit.specs.WellFormed.{held_keys, accounts_legal, place_legal, owner_legal, owned, row_of, owner_key}
use Rattle.unit.proofs.Lines.{AccountsLines, accounts_lines, held_count}
use Rattle.account_keys.specs.Order.{key_first, followed, key_used, least_used, place_for, key_added}

-- A row that is among others has a place, and stands there
pub place_found : (k : List ℕ) (l : List (List ℕ)) → among k l ≡ true → (place_of k l < length l) × (get_or l (place_of k l) [] ≡ k)
unfolding among place_of
place_found k [] h = absurd (false≢true h)
place_found k (x ∷ xs) h = go (true_or_false (same_bytes k x)) (place_found k xs)
  where
    go : (same_bytes k x ≡ true) ⊎ (same_bytes k x ≡ false) → (among k xs ≡ true → (place_of k xs < length xs) × (get_or xs (place_of k xs) [] ≡ k))
        → (cond (same_bytes k x) 0 (suc (place_of k xs)) < suc (length xs)) × (get_or (x ∷ xs) (cond (same_bytes k x) 0 (suc (place_of k xs))) [] ≡ k)
    go (inl e) later = rw e (omega arith, sym (same_equal k x e))
    go (inr e) later = let found = later (or_rest (among k xs) e h) in rw e (omega (arith, found.0), found.1)

least_of : (b : Bool) → cond b 8 9 < most_keys
least_of true = omega arith
least_of false = omega arith

-- the least recently used is not the owner's
pub not_least : (o : Owner) → o ≡ Some (least_used o) → ⊥
not_least None e = nobody e
  where
    nobody : {p : ℕ} → None ≡ Some p → ⊥
    nobody f = false≢true (ap owned f)
not_least (Some p) e = go (true_or_false (eqb p 9)) (ap place_in e)
  where
    place_in : Owner → ℕ
    place_in None = 0
    place_in (Some q) = q

    go : (eqb p 9 ≡ true) ⊎ (eqb p 9 ≡ false) → p ≡ cond (eqb p 9) 8 9 → ⊥
    go (inl t) f = let nine : p ≡ 9 = eqb-true p 9 t in let eight : p ≡ 8 = rw t at f in omega arith
    go (inr t) f = let nine : p ≡ 9 = rw t at f in eqb-false p 9 t nine

pub least_below : (o : Owner) → least_used o < most_keys
least_below None = omega arith
least_below (Some p) = least_of (eqb p 9)

-- The table with a key first: its length, and its rows
module _ (place : ℕ) (key keys : List ℕ) (room : length keys ≡ keys_room) (sized : length key ≡ account_key_size) (below : place < most_keys) where
  moved : length (take (place * account_key_size) keys) ≡ place * account_key_size
  moved = length-take-le (place * account_key_size) keys (omega arith)

  pub first_room : length (key_first place key keys) ≡ keys_room
  first_room =
      omega (
        arith,
        length-append key (take (place * account_key_size) keys ++ drop (suc place * account_key_size) keys),
        length-append (take (place * account_key_size) keys) (drop (suc place * account_key_size) keys),
        moved,
        length-drop (suc place * account_key_size) keys,
      )

  -- from the place on nothing has moved
  pub first_spare : (count : ℕ) → place < count → drop (count * account_key_size) (key_first place key keys) ≡ drop (count * account_key_size) keys
  first_spare count h =
      let less : count * account_key_size ≡ length key + (length (take (place * account_key_size) keys) + (count * account_key_size - suc place * account_key_size))
      = omega (arith, moved) in
      let same : suc place * account_key_size + (count * account_key_size - suc place * account_key_size) ≡ count * account_key_size = omega arith in
      ap (λ (n : ℕ). drop n (key_first place key keys)) less
      ∙ drop-append-add key (take (place * account_key_size) keys ++ drop (suc place * account_key_size) keys) _
      ∙ drop-append-add (take (place * account_key_size) keys) (drop (suc place * account_key_size) keys) _
      ∙ drop-drop (count * account_key_size - suc place * account_key_size) (suc place * account_key_size) keys
      ∙ ap (λ (n : ℕ). drop n keys) same

  pub first_rows : (count : ℕ) → place < count → count ≤ most_keys
      → rows account_key_size count (key_first place key keys) ≡ key ∷ others place (rows account_key_size count keys)
  first_rows zero h m = absurd (omega arith)
  first_rows (suc count) h m = rows_first account_key_size count place keys key sized (omega arith) (omega arith)

-- Where the owner stands, once a key came first and what stood at a place is gone
data Standing (place p : ℕ) : Type 0 where
  there : p ≡ place → followed place (Some p) ≡ Some 0 → Standing place p
  before : p < place → followed place (Some p) ≡ Some (suc p) → Standing place p
  behind : place < p → followed place (Some p) ≡ Some p → Standing place p

standing : (place p : ℕ) → Standing place p
standing place p = go (true_or_false (eqb p place)) (true_or_false (ltb p place))
  where
    go : (eqb p place ≡ true) ⊎ (eqb p place ≡ false) → (ltb p place ≡ true) ⊎ (ltb p place ≡ false) → Standing place p
    go (inl e) b = there (eqb-true p place e) (rw e)
    go (inr e) (inl b) = before (ltb-true p place b) (rw (e, b))
    go (inr e) (inr b) =
        let other : p ≡ place → ⊥ = eqb-false p place e in
        let most : place ≤ p = ltb-false p place b in
        behind (further p place other most) (rw (e, b))
      where
        further : (p place : ℕ) → (p ≡ place → ⊥) → place ≤ p → place < p
        further p place other most = omega (arith, other)

-- it is a place of the new count
followed_legal : (place : ℕ) (o : Owner) (count after : ℕ) → place_legal o count ≡ true → count ≤ after → place < after
    → place_legal (followed place o) after ≡ true
followed_legal place None count after h most below = refl
followed_legal place (Some p) count after h most below = go (standing place p)
  where
    go : Standing place p → place_legal (followed place (Some p)) after ≡ true
    go (there e f) = ap (λ (x : Owner). place_legal x after) f ∙ lt-ltb 0 after (omega arith)
    go (before b f) = ap (λ (x : Owner). place_legal x after) f ∙ lt-ltb (suc p) after (omega arith)
    go (behind b f) =
        let inside : p < count = ltb-true p count h in
        ap (λ (x : Owner). place_legal x after) f ∙ lt-ltb p after (omega arith)

-- and has the owner's key
followed_row : (place : ℕ) (o : Owner) (l : List (List ℕ)) (key : List ℕ) → place < length l → place_legal o (length l) ≡ true
    → (o ≡ Some place → key ≡ get_or l place []) → row_of (followed place o) (key ∷ others place l) ≡ row_of o l
followed_row place None l key below h same = refl
followed_row place (Some p) l key below h same = go (standing place p)
  where
    go : Standing place p → row_of (followed place (Some p)) (key ∷ others place l) ≡ some (get_or l p [])
    go (there e f) =
        ap (λ (x : Owner). row_of x (key ∷ others place l)) f ∙ ap some (same (ap Some e) ∙ ap (λ (n : ℕ). get_or l n []) (sym e))
    go (before b f) = ap (λ (x : Owner). row_of x (key ∷ others place l)) f ∙ ap some (others_before place p l b below)
    go (behind b f) =
        let next : p ≡ suc (p - 1) = omega arith in
        ap (λ (x : Owner). row_of x (key ∷ others place l)) f
        ∙ ap (λ (n : ℕ). some (get_or (key ∷ others place l) n [])) next
        ∙ ap some (others_behind_lem place (p - 1) l (omega arith))
        ∙ ap (λ (n : ℕ). some (get_or l n [])) (sym next)

-- The keys held after a use: the same ones, that key first
module _ (a : Accounts) (l : AccountsLines a) (place : ℕ) (there : place < a.count) where
  pub used_place : place_of (get_or (held_keys a) place []) (held_keys a) ≡ place
  used_place = place_at (held_keys a) place l.different (omega (arith, held_count a))

  used_sized : length (get_or (held_keys a) place []) ≡ account_key_size
  unfolding held_keys
  used_sized = length_row account_key_size a.count a.keys place there (omega (arith, l.room, l.count))

  pub used_held : held_keys (key_used (get_or (held_keys a) place []) a) ≡ get_or (held_keys a) place [] ∷ others place (held_keys a)
  unfolding held_keys
  used_held =
      rw used_place (first_rows place (get_or (held_keys a) place []) a.keys l.room used_sized (omega (arith, l.count)) a.count there l.count)

  pub used_lines : AccountsLines (key_used (get_or (held_keys a) place []) a)
  unfolding distinct
  used_lines =
      let below : place < most_keys = omega (arith, l.count) in
      record {
        room = rw used_place (first_room place (get_or (held_keys a) place []) a.keys l.room used_sized below);
        count = l.count;
        different =
            rw used_held
            (both (ap not (not_among_others place (held_keys a) l.different (omega (arith, held_count a)))) (distinct_others place (held_keys a) l.different));
        spare = rw (used_place, first_spare place (get_or (held_keys a) place []) a.keys l.room used_sized below a.count there) l.spare;
      }

  pub used_owner : owner_legal a ≡ true → owner_legal (key_used (get_or (held_keys a) place []) a) ≡ true
  unfolding owner_legal
  used_owner h = rw used_place (followed_legal place a.owner a.count a.count h (omega arith) there)

  pub used_owned : owner_legal a ≡ true → owner_key (key_used (get_or (held_keys a) place []) a) ≡ owner_key a
  unfolding owner_key owner_legal
  used_owned h =
      rw (used_held, used_place)
      (followed_row place a.owner (held_keys a) (get_or (held_keys a) place []) (omega (arith, held_count a)) (rw (held_count a) h) (λ e. refl))

-- The same of a use by the key's bytes
module _ (a : Accounts) (l : AccountsLines a) (key : List ℕ) (held : among key (held_keys a) ≡ true) where
  within : place_of key (held_keys a) < a.count
  within = omega (arith, (place_found key (held_keys a) held).0, held_count a)

  pub key_held_lem : held_keys (key_used key a) ≡ key ∷ others (place_of key (held_keys a)) (held_keys a)
  key_held_lem =
      subst (λ (k : List ℕ). held_keys (key_used k a) ≡ k ∷ others (place_of key (held_keys a)) (held_keys a)) (place_found key (held_keys a) held).1
      (used_held a l (place_of key (held_keys a)) within)

  pub key_lines : AccountsLines (key_used key a)
  key_lines =
      subst (λ (k : List ℕ). AccountsLines (key_used k a)) (place_found key (held_keys a) held).1 (used_lines a l (place_of key (held_keys a)) within)

  pub key_owner : owner_legal a ≡ true → owner_legal (key_used key a) ≡ true
  key_owner h =
      subst (λ (k : List ℕ). owner_legal (key_used k a) ≡ true) (place_found key (held_keys a) held).1 (used_owner a l (place_of key (held_keys a)) within h)

  pub key_owned_lem : owner_legal a ≡ true → owner_key (key_used key a) ≡ owner_key a
  key_owned_lem h =
      subst (λ (k : List ℕ). owner_key (key_used k a) ≡ owner_key a) (place_found key (held_keys a) held).1
      (used_owned a l (place_of key (held_keys a)) within h)

-- The keys held after an arrival: the new one before them, and of a full table the least recently used gone
module _ (a : Accounts) (l : AccountsLines a) (key : List ℕ) (sized : length key ≡ account_key_size) where
  pub room_held : a.count < most_keys → held_keys (key_added key a) ≡ key ∷ held_keys a
  unfolding held_keys
  room_held few =
      let all : List (List ℕ) = rows account_key_size (suc a.count) a.keys in
      let front : take a.count all ≡ rows account_key_size a.count a.keys = sym (rows_fewer account_key_size a.count (suc a.count) a.keys (omega arith)) in
      let past : length all ≤ suc a.count = omega (arith, length_rows account_key_size (suc a.count) a.keys) in
      rw (lt-ltb a.count most_keys few, add-one a.count)
      (first_rows a.count key a.keys l.room sized few (suc a.count) (omega arith) (omega arith)
      ∙ ap (λ (r : List (List ℕ)). key ∷ r) (rw (front, drop_of_length-le all past) (append-nil (rows account_key_size a.count a.keys))))

  pub full_held : a.count ≡ most_keys → held_keys (key_added key a) ≡ key ∷ others (least_used a.owner) (held_keys a)
  unfolding held_keys
  full_held full =
      let place = least_used a.owner in
      let below = least_below a.owner in
      rw (le-ltb a.count most_keys (omega arith)) (rw full (first_rows place key a.keys l.room sized below most_keys below (omega arith)))

  -- so it is well formed, and the owner is the same
  sound : among key (held_keys a) ≡ false → owner_legal a ≡ true
      → (a.count < most_keys) ⊎ (a.count ≡ most_keys)
      → AccountsLines (key_added key a) × (owner_legal (key_added key a) ≡ true) × (owner_key (key_added key a) ≡ owner_key a)
  unfolding owner_legal owner_key distinct
  sound new legal (inl few) =
      let place = a.count in
      let held = room_held few in
      let test = lt-ltb a.count most_keys few in
      let wide : List (List ℕ) = rows account_key_size (suc a.count) a.keys in (
        record {
          room = rw test (first_room place key a.keys l.room sized few);
          count = rw test (omega arith);
          different = rw held (both (ap not new) l.different);
          spare =
              rw (test, add-one a.count, first_spare place key a.keys l.room sized few (suc a.count) (omega arith))
              (behind_spare a.keys a.count l.spare);
        },
        rw (test, add-one a.count) (followed_legal place a.owner a.count (suc a.count) legal (omega arith) (omega arith)),
        rw (held, test) (one_on a.owner legal),
      )
    where
      behind_spare : (keys : List ℕ) (count : ℕ) → all_zero (drop (count * account_key_size) keys) ≡ true → all_zero (drop (suc count * account_key_size) keys) ≡ true
      behind_spare keys count h =
          let next : suc count * account_key_size ≡ count * account_key_size + account_key_size = omega arith in
          rw next (zeros_later keys (count * account_key_size) account_key_size h)

      -- an owner that is held stands one further on
      one_on : (o : Owner) → place_legal o a.count ≡ true → row_of (followed a.count o) (key ∷ held_keys a) ≡ row_of o (held_keys a)
      one_on None h = refl
      one_on (Some p) h =
          let below : p < a.count = ltb-true p a.count h in
          rw (ne_eqb p a.count (λ e. omega arith), lt-ltb p a.count below)
  sound new legal (inr full) =
      let place = least_used a.owner in
      let below = least_below a.owner in
      let held = full_held full in
      let test = le-ltb a.count most_keys (omega arith) in (
        record {
          room = rw test (first_room place key a.keys l.room sized below);
          count = rw test (omega arith);
          different = rw held (both (ap not (among_others key place (held_keys a) new)) (distinct_others place (held_keys a) l.different));
          spare = rw (test, first_spare place key a.keys l.room sized below most_keys below) (rw full at l.spare);
        },
        rw test (followed_legal place a.owner a.count most_keys legal (omega arith) below),
        rw (held, test)
            (followed_row place a.owner (held_keys a) key (omega (arith, held_count a)) (rw (held_count a) legal) (λ e. absurd (not_least a.owner e))),
      )

  room_or_not : (a.count < most_keys) ⊎ (a.count ≡ most_keys)
  room_or_not = go (true_or_false (ltb a.count most_keys))
    where
      go : (ltb a.count most_keys ≡ true) ⊎ (ltb a.count most_keys ≡ false) → (a.count < most_keys) ⊎ (a.count ≡ most_keys)
      go (inl e) = inl (ltb-true a.count most_keys e)
      go (inr e) = let full : most_keys ≤ a.count = ltb-false a.count most_keys e in inr (omega (arith, l.count))

  module _ (new : among key (held_keys a) ≡ false) (legal : owner_legal a ≡ true) where
    pub added_lines : AccountsLines (key_added key a)
    added_lines = (sound new legal room_or_not).0

    pub added_owner : owner_legal (key_added key a) ≡ true
    added_owner = (sound new legal room_or_not).1

    pub added_owned : owner_key (key_added key a) ≡ owner_key a
    added_owned = (sound new legal room_or_not).2

-- whether there is an owner does not change
pub followed_owned : (place : ℕ) (o : Owner) → owned (followed place o) ≡ owned o
followed_owned place None = refl
followed_owned place (Some p) = refl
