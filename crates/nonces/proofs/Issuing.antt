-- A nonce issued is the newest, before those that were held; at most sixteen are. And what is well formed stays so.
use Prim.Native.Nat.{ℕ, zero, suc, ◌+◌, ◌*◌, ◌-◌, ◌≤◌, ◌<◌}
use mathlib.Core.Path.{◌≡◌, refl, sym, ap, ◌∙◌}
use mathlib.Core.Bool.{Bool, true, false, not, cond}
use mathlib.Core.Logic.{◌⊎◌, inl, inr}
use mathlib.Core.List.{List, [], ◌∷◌, ◌++◌}
use native.Mathlib.Omega.{arith}
use native.Mathlib.Numerals.{add-one}
use lib.Dec.{eqb, ltb}
use lib.ListN.{length, take, drop, length-append, drop_of_length-le}
use lib.Seq.{take_all, take_at, drop_at, drop-append-add, length-take-le, take-take}
use borrow.Author.Tests.{eqb-true, eq-eqb, ltb-true, ltb-false}
use Rattle.laws.specs.Bytes.{all_zero}
use Rattle.laws.proofs.Flags.{true_or_false, and_left, and_right, both, fails, clash}
use Rattle.sizes.specs.Sizes.{nonce_size, most_nonces, nonces_room, earlier_room}
use Rattle.tables.specs.Rows.{rows, among, distinct}
use Rattle.tables.proofs.Rows.{length_rows, rows_take, rows_fewer, drop_take, among_take, distinct_take}
use Rattle.nonces.specs.Nonces.{issued_nonces, nonces_legal, nonce_fits, count_after, with_issued}
use Rattle.nonces.specs.declared.Nonces.{Nonces}
use Rattle.nonces.proofs.Lines.{NoncesLines, all_room, nonces_lines, nonces_legal_lem}

-- how many of those (n.newest ++ n.earlier) stay beside a new one
data Kept (count : ℕ) : Type 0 where
  kept : (rest : ℕ) → count_after count ≡ suc rest → rest ≤ 15 → rest ≤ count → (15 ≤ rest) ⊎ (rest ≡ count) → Kept count

how_many : (count : ℕ) → count ≤ most_nonces → Kept count
how_many count h = go (true_or_false (ltb count most_nonces))
  where
    go : (ltb count most_nonces ≡ true) ⊎ (ltb count most_nonces ≡ false) → Kept count
    go (inl e) =
        let few : count < most_nonces = ltb-true count most_nonces e in
        kept count (rw e (add-one count)) (omega arith) (omega arith) (inr refl)
    go (inr e) =
        let full : most_nonces ≤ count = ltb-false count most_nonces e in
        kept 15 (rw e) (omega arith) (omega arith) (inl (omega arith))

-- the first of zeros are zeros
zeros_take : (n : ℕ) (l : List ℕ) → all_zero l ≡ true → all_zero (take n l) ≡ true
unfolding all_zero
zeros_take zero l h = refl
zeros_take (suc n) [] h = refl
zeros_take (suc n) (x ∷ xs) h = both {a = eqb x 0} (and_left (eqb x 0) (all_zero xs) h) (zeros_take n xs (and_right (eqb x 0) (all_zero xs) h))

module _ (nonce : List ℕ) (n : Nonces) (l : NoncesLines n) (sized : length nonce ≡ nonce_size) where
  -- sixteen at most, the new one first
  pub issued_first : issued_nonces (with_issued nonce n) ≡ take most_nonces (nonce ∷ issued_nonces n)
  unfolding issued_nonces rows
  issued_first = go (how_many n.count l.count)
    where
      go : Kept n.count → rows nonce_size (count_after n.count) (nonce ++ take earlier_room (n.newest ++ n.earlier)) ≡ nonce ∷ take 15 (rows nonce_size n.count (n.newest ++ n.earlier))
      go (kept rest e most fewer which) =
          rw (e, take_at nonce (take earlier_room (n.newest ++ n.earlier)) nonce_size sized, drop_at nonce (take earlier_room (n.newest ++ n.earlier)) nonce_size sized)
          (ap (λ (r : List (List ℕ)). nonce ∷ r)
          (rows_take nonce_size rest earlier_room (n.newest ++ n.earlier) (omega arith)
          ∙ rows_fewer nonce_size rest n.count (n.newest ++ n.earlier) fewer
          ∙ same which))
        where
          same : (15 ≤ rest) ⊎ (rest ≡ n.count) → take rest (rows nonce_size n.count (n.newest ++ n.earlier)) ≡ take 15 (rows nonce_size n.count (n.newest ++ n.earlier))
          same (inl full) = let all : rest ≡ 15 = omega arith in ap (λ (k : ℕ). take k (rows nonce_size n.count (n.newest ++ n.earlier))) all
          same (inr all) =
              let short : length (rows nonce_size n.count (n.newest ++ n.earlier)) ≤ rest = omega (arith, length_rows nonce_size n.count (n.newest ++ n.earlier)) in
              take_all rest (rows nonce_size n.count (n.newest ++ n.earlier)) short
              ∙ sym (take_all 15 (rows nonce_size n.count (n.newest ++ n.earlier)) (omega arith))

  -- what is not held may be issued
  pub nonces_issued : among nonce (issued_nonces n) ≡ false → NoncesLines (with_issued nonce n)
  unfolding distinct all_zero
  nonces_issued new = go (how_many n.count l.count)
    where
      front : length (take earlier_room (n.newest ++ n.earlier)) ≡ earlier_room
      front = length-take-le earlier_room (n.newest ++ n.earlier) (omega (arith, all_room n l))

      long : length (nonce ++ take earlier_room (n.newest ++ n.earlier)) ≡ nonces_room
      long = omega (arith, length-append nonce (take earlier_room (n.newest ++ n.earlier)), front, sized)

      zeros : (rest : ℕ) → rest ≤ 15 → (15 ≤ rest) ⊎ (rest ≡ n.count) → all_zero (drop (suc rest * nonce_size) (nonce ++ take earlier_room (n.newest ++ n.earlier))) ≡ true
      zeros rest most (inl full) =
          let past : length (nonce ++ take earlier_room (n.newest ++ n.earlier)) ≤ suc rest * nonce_size = omega (arith, long) in
          rw (drop_of_length-le (nonce ++ take earlier_room (n.newest ++ n.earlier)) past)
      zeros rest most (inr all) =
          let place : suc rest * nonce_size ≡ length nonce + rest * nonce_size = omega (arith, sized) in
          let size : earlier_room ≡ rest * nonce_size + (earlier_room - rest * nonce_size) = omega arith in
          let behind : drop (rest * nonce_size) (take earlier_room (n.newest ++ n.earlier)) ≡ take (earlier_room - rest * nonce_size) (drop (rest * nonce_size) (n.newest ++ n.earlier))
          = ap (λ (k : ℕ). drop (rest * nonce_size) (take k (n.newest ++ n.earlier))) size ∙ drop_take (rest * nonce_size) (earlier_room - rest * nonce_size) (n.newest ++ n.earlier) in
          rw (place, drop-append-add nonce (take earlier_room (n.newest ++ n.earlier)) (rest * nonce_size), behind)
          (zeros_take (earlier_room - rest * nonce_size) (drop (rest * nonce_size) (n.newest ++ n.earlier)) (rw (sym all) at l.spare))

      go : Kept n.count → NoncesLines (with_issued nonce n)
      go (kept rest e most fewer which) =
          record {
            newest_room = sized;
            rest_room = front;
            count = omega arith;
            different = rw issued_first (both (ap not (among_take nonce 15 (issued_nonces n) new)) (distinct_take 15 (issued_nonces n) l.different));
            spare = rw e (zeros rest most which);
            held = λ live. omega arith;
          }

pub fits_sized : (n : Nonces) (nonce : List ℕ) → nonce_fits n nonce ≡ true → length nonce ≡ nonce_size
unfolding nonce_fits
fits_sized n nonce h = eqb-true _ nonce_size (and_left (eqb (length nonce) nonce_size) _ h)

pub fits_new : (n : Nonces) (nonce : List ℕ) → nonce_fits n nonce ≡ true → among nonce (issued_nonces n) ≡ false
unfolding nonce_fits
fits_new n nonce h = fails _ (λ e. clash (and_right (eqb (length nonce) nonce_size) _ h) (ap not e))

pub fits_both : (n : Nonces) (nonce : List ℕ) → length nonce ≡ nonce_size → among nonce (issued_nonces n) ≡ false → nonce_fits n nonce ≡ true
unfolding nonce_fits
fits_both n nonce sized new = both (eq-eqb _ nonce_size sized) (ap not new)

pub issued_legal : (nonce : List ℕ) (n : Nonces) → nonces_legal n ≡ true → nonce_fits n nonce ≡ true → nonces_legal (with_issued nonce n) ≡ true
issued_legal nonce n h fits =
    nonces_legal_lem (with_issued nonce n) (nonces_issued nonce n (nonces_lines n h) (fits_sized n nonce fits) (fits_new n nonce fits))
