-- Of the keys that came, in order of last use, those that an account table holds: the ten last used, or the owner and the nine others last used.
-- A use brings its key before the others, and an arrival comes before them and pushes the last out that is not the owner's.
use Prim.Native.Nat.{ℕ, ◌≤◌, ◌<◌}
use mathlib.Core.Path.{◌≡◌, refl, sym, ap, ◌∙◌}
use mathlib.Core.Bool.{true, false, not, cond}
use mathlib.Core.List.{List, [], ◌∷◌}
use mathlib.Core.Option.{Option, some, none}
use mathlib.Core.Logic.{◌⊎◌, inl, inr}
use native.Mathlib.Omega.{arith}
use lib.Dec.{eqb, ltb}
use lib.ListN.{length, get_or}
use borrow.Author.Tests.{eqb-true, eqb-false, ltb-true, ltb-false}
use Rattle.std.specs.Prelude.{Some, None}
use Rattle.laws.specs.Bytes.{same_bytes}
use Rattle.laws.proofs.Flags.{true_or_false, fails, both, clash}
use Rattle.laws.proofs.Same.{same_equal}
use Rattle.tables.specs.Rows.{among, distinct, place_of}
use Rattle.tables.proofs.Rows.{others, among_place}
use Rattle.unit.specs.declared.Accounts.{Accounts}
use Rattle.unit.specs.Types.{Owner}
use Rattle.unit.specs.WellFormed.{held_keys, row_of, owner_key, owner_legal}
use Rattle.unit.proofs.Lines.{AccountsLines, held_count}
use Rattle.account_keys.specs.Order.{key_used, key_added, least_used}
use Rattle.account_keys.proofs.Order.{place_found, key_held_lem, key_owned_lem, room_held, full_held, added_owned}
use Rattle.state_read.specs.State.{claimed, owned_by}
use Rattle.demanded_keys.specs.KeysByUse.{without, is_owner, first_others, kept, owner_after}
use Rattle.demanded_refusals.proofs.KeyUses.{claimed_held, claimed_lines, claimed_legal}
use Rattle.demanded_keys.proofs.FirstOthers.{others_without, gone, distinct_without, used_first, claimed_first, new_first, room_all, last_goes, next_goes, first_front, first_all}

-- Accounts that hold of these keys the ones that are kept
pub record Keeps (a : Accounts) (owner : Option (List ℕ)) (keys : List (List ℕ)) : Type 0 where
  pub held : held_keys a ≡ kept owner keys
  pub owned : owner_key a ≡ owner
  pub once : distinct keys ≡ true

-- the keys in their new order are without repetition too
once_first : (k : List ℕ) (keys : List (List ℕ)) → distinct keys ≡ true → distinct (k ∷ without k keys) ≡ true
unfolding distinct
once_first k keys d = both (ap not (gone k keys d)) (distinct_without k keys d)

-- A use
kept_used : (o : Option (List ℕ)) (k : List ℕ) (keys : List (List ℕ)) → among k (kept o keys) ≡ true → kept o (k ∷ without k keys) ≡ k ∷ without k (kept o keys)
kept_used none k keys h = used_first 9 none k keys h
kept_used (some o) k keys h = used_first 8 (some o) k keys h

kept_claimed : (o : Option (List ℕ)) (k : List ℕ) (keys : List (List ℕ)) → distinct keys ≡ true → among k (kept o keys) ≡ true
    → kept (owner_after o k) (k ∷ without k keys) ≡ k ∷ without k (kept o keys)
kept_claimed none k keys d h = claimed_first 9 k keys d h
kept_claimed (some o) k keys d h = used_first 8 (some o) k keys h

-- An arrival: room for one less of those that were held
abbrev kept_but_one : Option (List ℕ) → List (List ℕ) → List (List ℕ)
kept_but_one none held = first_others 9 none held
kept_but_one (some o) held = first_others 8 (some o) held

kept_new : (o : Option (List ℕ)) (k : List ℕ) (keys : List (List ℕ)) → is_owner o k ≡ false → among k (kept o keys) ≡ false
    → kept o (k ∷ without k keys) ≡ k ∷ kept_but_one o (kept o keys)
kept_new none k keys other h = new_first 9 none k keys other h
kept_new (some o) k keys other h = new_first 8 (some o) k keys other h

room_or_full : (n : ℕ) → n ≤ 10 → (n < 10) ⊎ (n ≡ 10)
room_or_full n most = go (true_or_false (ltb n 10))
  where
    go : (ltb n 10 ≡ true) ⊎ (ltb n 10 ≡ false) → (n < 10) ⊎ (n ≡ 10)
    go (inl e) = inl (ltb-true n 10 e)
    go (inr e) = let full : 10 ≤ n = ltb-false n 10 e in inr (omega arith)

module _ (a : Accounts) (l : AccountsLines a) (legal : owner_legal a ≡ true) where
  held_place : (p : ℕ) → a.owner ≡ Some p → p < a.count
  unfolding owner_legal
  held_place p e = ltb-true p a.count (rw e at legal)

  pub keeps_used : {o : Option (List ℕ)} {keys : List (List ℕ)} (k : List ℕ) → Keeps a o keys → among k (held_keys a) ≡ true
      → Keeps (key_used k a) o (k ∷ without k keys)
  keeps_used {o} {keys} k s h =
      record {
        held =
            key_held_lem a l k h
            ∙ ap (λ (r : List (List ℕ)). k ∷ r) (others_without k (held_keys a) ∙ ap (without k) s.held)
            ∙ sym (kept_used o k keys (rw s.held at h));
        owned = key_owned_lem a l k h legal ∙ s.owned;
        once = once_first k keys s.once;
      }

  -- and one that makes its key the owner where there was none
  claimed_owned : (o : Owner) (k : List ℕ) → a.owner ≡ o → among k (held_keys a) ≡ true → owner_key (claimed o k a) ≡ owner_after (owner_key a) k
  unfolding owner_key held_keys
  claimed_owned None k e h = rw e (ap some (place_found k (held_keys a) h).1)
  claimed_owned (Some p) k e h = rw e

  pub keeps_claimed : {o : Option (List ℕ)} {keys : List (List ℕ)} (k : List ℕ) → Keeps a o keys → among k (held_keys a) ≡ true
      → Keeps (key_used k (owned_by k a)) (owner_after o k) (k ∷ without k keys)
  keeps_claimed {o} {keys} k s h =
      let same = claimed_held a.owner k a in
      let there : among k (held_keys (owned_by k a)) ≡ true = rw same h in
      let right = claimed_lines a.owner k a l in
      let within : place_of k (held_keys a) < a.count = omega (arith, (place_found k (held_keys a) h).0, held_count a) in
      record {
        held =
            key_held_lem (owned_by k a) right k there
            ∙ ap (λ (r : List (List ℕ)). k ∷ r) (others_without k (held_keys (owned_by k a)) ∙ ap (without k) (same ∙ s.held))
            ∙ sym (kept_claimed o k keys s.once (rw s.held at h));
        owned =
            key_owned_lem (owned_by k a) right k there (claimed_legal a.owner k a within legal)
            ∙ claimed_owned a.owner k refl h
            ∙ ap (λ (x : Option (List ℕ)). owner_after x k) s.owned;
        once = once_first k keys s.once;
      }

  -- An arrival: where there is room all are still held
  room_kept : (o : Owner) → a.owner ≡ o → a.count < 10 → kept_but_one (row_of o (held_keys a)) (held_keys a) ≡ held_keys a
  room_kept None e few = first_all none 9 (held_keys a) (omega (arith, held_count a))
  room_kept (Some p) e few =
      let below : p < a.count = held_place p e in
      room_all 8 (held_keys a) p (omega (arith, held_count a)) (omega (arith, held_count a)) l.different

  -- and of ten the last that is not the owner's goes
  full_kept : (o : Owner) → a.owner ≡ o → a.count ≡ 10 → kept_but_one (row_of o (held_keys a)) (held_keys a) ≡ others (least_used o) (held_keys a)
  full_kept None e full = first_front 9 (held_keys a) (omega (arith, held_count a))
  full_kept (Some p) e full = go (true_or_false (eqb p 9))
    where
      go : (eqb p 9 ≡ true) ⊎ (eqb p 9 ≡ false) → first_others 8 (some (get_or (held_keys a) p [])) (held_keys a) ≡ others (cond (eqb p 9) 8 9) (held_keys a)
      go (inl t) =
          let last : p ≡ 9 = eqb-true p 9 t in
          rw t (rw last (next_goes 8 (held_keys a) (omega (arith, held_count a)) l.different))
      go (inr t) =
          let below : p < a.count = held_place p e in
          let sooner : p ≤ 8 = omega (arith, eqb-false p 9 t) in
          rw t (last_goes 8 (held_keys a) p sooner (omega (arith, held_count a)) l.different)

  -- the owner's key is held, so a key that is not held is not the owner's
  not_owners : (o : Owner) (k : List ℕ) → a.owner ≡ o → among k (held_keys a) ≡ false → is_owner (row_of o (held_keys a)) k ≡ false
  not_owners None k e new = refl
  not_owners (Some p) k e new =
      let below : p < a.count = held_place p e in
      fails (same_bytes (get_or (held_keys a) p []) k)
      (λ s.
      let is : get_or (held_keys a) p [] ≡ k = same_equal (get_or (held_keys a) p []) k s in
      clash (rw is at (among_place (held_keys a) p (omega (arith, held_count a)))) new)

  pub keeps_added : {o : Option (List ℕ)} {keys : List (List ℕ)} (k : List ℕ) → Keeps a o keys → length k ≡ 16 → among k (held_keys a) ≡ false
      → Keeps (key_added k a) o (k ∷ without k keys)
  unfolding owner_key
  keeps_added {o} {keys} k s sized new =
      let other : is_owner o k ≡ false = rw s.owned at (not_owners a.owner k refl new) in
      let first : kept o (k ∷ without k keys) ≡ k ∷ kept_but_one o (held_keys a)
      = rw s.held (kept_new o k keys other (rw s.held at new)) in
      record {
        held = go s.owned (room_or_full a.count l.count) ∙ sym first;
        owned = added_owned a l k sized new legal ∙ s.owned;
        once = once_first k keys s.once;
      }
    where
      go : owner_key a ≡ o → (a.count < 10) ⊎ (a.count ≡ 10) → held_keys (key_added k a) ≡ k ∷ kept_but_one o (held_keys a)
      go is (inl few) = room_held a l k sized few ∙ ap (λ (r : List (List ℕ)). k ∷ r) (sym (rw is at (room_kept a.owner refl few)))
      go is (inr full) = full_held a l k sized full ∙ ap (λ (r : List (List ℕ)). k ∷ r) (sym (rw is at (full_kept a.owner refl full)))
