-- Account keys by their places in the table: the key that a search finds, the owner's, and the sixteen bytes at a place are the same.
use Prim.Native.Nat.{ℕ, zero, suc, ◌*◌, ◌<◌}
use mathlib.Core.Path.{◌≡◌, refl, sym, ap, ◌∙◌}
use mathlib.Core.Bool.{Bool, true, false, cond}
use mathlib.Core.List.{List, [], ◌∷◌}
use mathlib.Core.Option.{some}
use native.Mathlib.Omega.{arith}
use lib.ListN.{length, get_or, take, drop}
use Rattle.std.specs.Prelude.{Some, None}
use Rattle.tables.specs.Rows.{first_that}
use Rattle.tables.proofs.Rows.{row_at}
use Rattle.unit.specs.declared.TagUnit.{TagUnit}
use Rattle.unit.specs.Types.{Owner}
use Rattle.unit.specs.WellFormed.{well_formed, held_keys, row_of, owner_key}
use Rattle.unit.proofs.Lines.{lines, owner_held_lem}
use Rattle.demanded_answers.specs.Spelled.{key_at_place, OwnedWith}

-- the first row that passes a test has a place, and passes it; those before it fail
pub record FoundAt (test : List ℕ → Bool) (l : List (List ℕ)) (key : List ℕ) : Type 0 where
  pub place : ℕ
  pub below : place < length l
  pub there : get_or l place [] ≡ key
  pub passes : test key ≡ true
  pub earlier : (i : ℕ) → i < place → test (get_or l i []) ≡ false

pub found_at : (test : List ℕ → Bool) (l : List (List ℕ)) (key : List ℕ) → first_that test l ≡ some key → FoundAt test l key
unfolding first_that
found_at test [] key e = let z : ◌≡◌ {A = ℕ} 0 1 = cc in absurd (omega arith)
found_at test (x ∷ xs) key e = go (test x) refl e (found_at test xs key)
  where
    before : test x ≡ false → (p : ℕ) → ((i : ℕ) → i < p → test (get_or xs i []) ≡ false) → (i : ℕ) → i < suc p → test (get_or (x ∷ xs) i []) ≡ false
    before t p f zero h = t
    before t p f (suc i) h = f i (omega arith)

    further : test x ≡ false → FoundAt test xs key → FoundAt test (x ∷ xs) key
    further t f =
        record {
          place = suc f.place;
          below = omega (arith, f.below);
          there = f.there;
          passes = f.passes;
          earlier = before t f.place f.earlier;
        }

    go : (b : Bool) → test x ≡ b → cond b (some x) (first_that test xs) ≡ some key → (first_that test xs ≡ some key → FoundAt test xs key)
        → FoundAt test (x ∷ xs) key
    go true t h later = let same : x ≡ key = cc in record { place = 0; below = omega arith; there = same; passes = rw same at t; earlier = λ i b. absurd (omega arith) }
    go false t h later = further t (later h)

-- a row that is held is the bytes at its place
pub held_at : (u : TagUnit) (p : ℕ) → p < u.accounts.count → get_or (held_keys u.accounts) p [] ≡ key_at_place u p
unfolding held_keys
held_at u p h =
    let turned : p * 16 ≡ 16 * p = omega arith in
    row_at 16 u.accounts.count u.accounts.keys p h ∙ ap (λ (n : ℕ). take 16 (drop n u.accounts.keys)) turned

-- the owner's key, as the rules speak of it and as the bytes at its place
pub owned_with : (u : TagUnit) → well_formed u ≡ true → (key : List ℕ) → owner_key u.accounts ≡ some key → OwnedWith u key
unfolding owner_key
owned_with u w key e = go u.accounts.owner refl e
  where
    go : (o : Owner) → u.accounts.owner ≡ o → row_of o (held_keys u.accounts) ≡ some key → OwnedWith u key
    go None is h = let z : ◌≡◌ {A = ℕ} 0 1 = cc in absurd (omega arith)
    go (Some p) is h =
        let row : get_or (held_keys u.accounts) p [] ≡ key = cc in
        (p, is, sym (held_at u p (owner_held_lem (lines u w) p is)) ∙ row)

pub owner_key_lem : (u : TagUnit) → well_formed u ≡ true → (key : List ℕ) → OwnedWith u key → owner_key u.accounts ≡ some key
unfolding owner_key held_keys
owner_key_lem u w key (p, is, row) = rw is (ap some (held_at u p (owner_held_lem (lines u w) p is) ∙ row))
