-- A unit's nonces by the lines that make them well formed, each by a name.
use Prim.Native.Nat.{ℕ, ◌*◌, ◌≤◌, ◌<◌}
use mathlib.Core.Path.{◌≡◌, refl, ap}
use mathlib.Core.Bool.{Bool, true, false, not, ◌&&◌, ◌||◌, false≢true}
use mathlib.Core.Logic.{◌⊎◌, inl, inr}
use mathlib.Core.List.{List, ◌++◌}
use native.Mathlib.Omega.{arith}
use lib.Dec.{eqb, leb, ltb}
use lib.ListN.{length, drop, length-append}
use borrow.Author.Tests.{ltb-true, lt-ltb, leb-true, le-leb, eqb-true, eq-eqb}
use Rattle.laws.specs.Bytes.{all_zero}
use Rattle.laws.proofs.Flags.{true_or_false, and_left, and_right, both, or_left, or_right, or_rest}
use Rattle.sizes.specs.Sizes.{nonce_size, most_nonces, nonces_room, earlier_room}
use Rattle.tables.specs.Rows.{rows, distinct}
use Rattle.tables.proofs.Rows.{length_rows}
use Rattle.nonces.specs.Nonces.{issued_nonces, nonces_legal, no_nonces, spent_nonces}
use Rattle.nonces.specs.declared.Nonces.{Nonces}

pub record NoncesLines (n : Nonces) : Type 0 where
  pub newest_room : length n.newest ≡ nonce_size
  pub rest_room : length n.earlier ≡ earlier_room
  pub count : n.count ≤ most_nonces
  pub different : distinct (issued_nonces n) ≡ true
  pub spare : all_zero (drop (n.count * nonce_size) (n.newest ++ n.earlier)) ≡ true
  pub held : n.live ≡ true → 0 < n.count

pub issued_count : (n : Nonces) → length (issued_nonces n) ≡ n.count
unfolding issued_nonces
issued_count n = length_rows nonce_size n.count (n.newest ++ n.earlier)

pub all_room : (n : Nonces) → NoncesLines n → length (n.newest ++ n.earlier) ≡ nonces_room
all_room n l = omega (arith, length-append n.newest n.earlier, l.newest_room, l.rest_room)

-- live only with a nonce, as a test and as a fact
held_test : (live : Bool) (count : ℕ) → (live ≡ true → 0 < count) → not live || ltb 0 count ≡ true
held_test true count h = lt-ltb 0 count (h refl)
held_test false count h = refl

held_fact : (live : Bool) (count : ℕ) → not live || ltb 0 count ≡ true → live ≡ true → 0 < count
held_fact live count h e = ltb-true 0 count (or_rest (ltb 0 count) (ap not e) h)

pub nonces_lines : (n : Nonces) → nonces_legal n ≡ true → NoncesLines n
unfolding nonces_legal
nonces_lines n h =
    let rooms = and_left (eqb (length n.newest) nonce_size && eqb (length n.earlier) earlier_room) _ h in
    let from-count = and_right (eqb (length n.newest) nonce_size && eqb (length n.earlier) earlier_room) _ h in
    let from-different = and_right (leb n.count most_nonces) _ from-count in
    let from-spare = and_right (distinct (issued_nonces n)) _ from-different in
    record {
      newest_room = eqb-true _ _ (and_left _ _ rooms);
      rest_room = eqb-true _ _ (and_right (eqb (length n.newest) nonce_size) _ rooms);
      count = leb-true _ _ (and_left _ _ from-count);
      different = and_left _ _ from-different;
      spare = and_left _ _ from-spare;
      held = held_fact _ _ (and_right (all_zero (drop (n.count * nonce_size) (n.newest ++ n.earlier))) _ from-spare);
    }

pub nonces_legal_lem : (n : Nonces) → NoncesLines n → nonces_legal n ≡ true
unfolding nonces_legal
nonces_legal_lem n l =
    both (both (eq-eqb _ _ l.newest_room) (eq-eqb _ _ l.rest_room))
    (both (le-leb _ _ l.count) (both l.different (both l.spare (held_test _ _ l.held))))

pub none_legal : nonces_legal no_nonces ≡ true
unfolding nonces_legal issued_nonces rows distinct all_zero
none_legal = refl

pub spent_legal : (n : Nonces) → nonces_legal n ≡ true → nonces_legal (spent_nonces n) ≡ true
unfolding issued_nonces
spent_legal n h =
    let l = nonces_lines n h in
    nonces_legal_lem (spent_nonces n)
    (record {
      newest_room = l.newest_room;
      rest_room = l.rest_room;
      count = l.count;
      different = l.different;
      spare = l.spare;
      held = λ e. absurd (false≢true e);
    })
