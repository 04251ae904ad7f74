-- What a use of an account key and an arrival leave: tables that are well formed, made of bytes where they were, with the same owner's key.
use Prim.Native.Nat.{ℕ, zero, suc, ◌*◌, ◌<◌}
use mathlib.Core.Path.{◌≡◌, refl, ap, ◌∙◌}
use mathlib.Core.Bool.{true, false}
use mathlib.Core.List.{List, [], ◌∷◌, ◌++◌}
use mathlib.Core.Option.{Option, some, none}
use native.Mathlib.Omega.{arith}
use lib.ListN.{length, get_or, take, drop, take-append-drop}
use borrow.Author.Tests.{lt-ltb, le-ltb, ne_eqb}
use Rattle.std.specs.Prelude.{Some, None}
use Rattle.sizes.specs.Sizes.{account_key_size}
use Rattle.tables.specs.Rows.{rows, among, place_of}
use Rattle.tables.proofs.Rows.{among_place, row_at}
use Rattle.wire.specs.Shape.{Request}
use Rattle.unit.specs.declared.TagUnit.{TagUnit}
use Rattle.unit.specs.declared.Accounts.{Accounts}
use Rattle.unit.specs.Types.{Owner}
use Rattle.unit.specs.WellFormed.{well_formed, held_keys, owner_legal, row_of, owner_key}
use Rattle.unit.specs.Change.{with_accounts}
use Rattle.unit.proofs.Lines.{AccountsLines, lines, held_count, owner_held_lem}
use Rattle.unit.proofs.Kept.{owner_kept, accounts_kept}
use Rattle.account_keys.specs.Order.{key_first, followed, key_used, after_use}
use Rattle.account_keys.proofs.Order.{place_found, used_place, key_lines, key_owner, followed_owned}
use Rattle.authentication.specs.Judgement.{used_key}
use Rattle.state_read.specs.State.{claimed}
use Rattle.demanded_answers.specs.History.{Bytes}
use Rattle.demanded_refusals.proofs.HeldKeys.{first_among}
use Rattle.demanded_refusals.proofs.OfBytes.{bytes_take, bytes_drop, bytes_append}

-- a key that was used is held
pub used_among : (u : TagUnit) (q : Request) (key : List ℕ) → used_key u q ≡ some key → among key (held_keys u.accounts) ≡ true
unfolding used_key
used_among u q key e = first_among _ (held_keys u.accounts) key e

-- the owner's key is held
owner_among : (o : Owner) (l : List (List ℕ)) (key : List ℕ) → ((p : ℕ) → o ≡ Some p → p < length l) → row_of o l ≡ some key → among key l ≡ true
owner_among None l key held e = cc
owner_among (Some p) l key held e =
    let is : get_or l p [] ≡ key = cc in
    rw is at (among_place l p (held p refl))

pub owner_held_key : (u : TagUnit) → well_formed u ≡ true → (key : List ℕ) → owner_key u.accounts ≡ some key → among key (held_keys u.accounts) ≡ true
unfolding owner_key
owner_held_key u w key e =
    owner_among u.accounts.owner (held_keys u.accounts) key (λ p o. omega (arith, owner_held_lem (lines u w) p o, held_count u.accounts)) e

-- The accounts with an owner claimed: the same keys
pub claimed_held : (o : Owner) (key : List ℕ) (a : Accounts) → held_keys (claimed o key a) ≡ held_keys a
unfolding held_keys
claimed_held None key a = refl
claimed_held (Some p) key a = refl

pub claimed_lines : (o : Owner) (key : List ℕ) (a : Accounts) → AccountsLines a → AccountsLines (claimed o key a)
unfolding held_keys
claimed_lines None key a l = record { room = l.room; count = l.count; different = l.different; spare = l.spare }
claimed_lines (Some p) key a l = l

pub claimed_legal : (o : Owner) (key : List ℕ) (a : Accounts) → place_of key (held_keys a) < a.count → owner_legal a ≡ true → owner_legal (claimed o key a) ≡ true
unfolding owner_legal
claimed_legal None key a h l = lt-ltb (place_of key (held_keys a)) a.count h
claimed_legal (Some p) key a h l = l

pub claimed_key : (o : Owner) (used : List ℕ) (a : Accounts) → a.owner ≡ o → (key : List ℕ) → owner_key a ≡ some key → owner_key (claimed o used a) ≡ some key
unfolding owner_key
claimed_key None used a e key h = let none-there : none ≡ some key = rw e at h in cc
claimed_key (Some p) used a e key h = h

pub claimed_bytes : (o : Owner) (key : List ℕ) (a : Accounts) → (claimed o key a).keys ≡ a.keys
claimed_bytes None key a = refl
claimed_bytes (Some p) key a = refl

-- a row of a table of bytes is bytes
row_bytes : (count : ℕ) (table : List ℕ) (p : ℕ) → Bytes table → Bytes (get_or (rows account_key_size count table) p [])
unfolding rows
row_bytes zero table p b = λ i. omega arith
row_bytes (suc count) table zero b = bytes_take account_key_size table b
row_bytes (suc count) table (suc p) b = row_bytes count (drop account_key_size table) p (bytes_drop account_key_size table b)

pub first_bytes_lem : (place : ℕ) (key keys : List ℕ) → Bytes key → Bytes keys → Bytes (key_first place key keys)
first_bytes_lem place key keys k b =
    bytes_append key _ k
    (bytes_append (take (place * account_key_size) keys) _ (bytes_take (place * account_key_size) keys b) (bytes_drop (suc place * account_key_size) keys b))

pub held_bytes : (a : Accounts) (key : List ℕ) → among key (held_keys a) ≡ true → Bytes a.keys → Bytes key
unfolding held_keys
held_bytes a key held b =
    let found = place_found key (held_keys a) held in
    rw found.1 at (row_bytes a.count a.keys (place_of key (held_keys a)) b)

pub owner_bytes : (a : Accounts) (key : List ℕ) → owner_key a ≡ some key → Bytes a.keys → Bytes key
unfolding owner_key held_keys
owner_bytes a key e b = go a.owner e
  where
    go : (o : Owner) → row_of o (rows account_key_size a.count a.keys) ≡ some key → Bytes key
    go None h = let z : ◌≡◌ {A = ℕ} 0 1 = cc in absurd (omega arith)
    go (Some p) h = let is : get_or (rows account_key_size a.count a.keys) p [] ≡ key = cc in rw is at (row_bytes a.count a.keys p b)

-- A use leaves a well-formed unit
pub after_use_lem : (u : TagUnit) → well_formed u ≡ true → (key : List ℕ) → among key (held_keys u.accounts) ≡ true → well_formed (after_use key u) ≡ true
after_use_lem u w key held =
    let l = lines u w in
    accounts_kept u w (key_used key u.accounts) (key_lines u.accounts l.accounts key held)
    (key_owner u.accounts l.accounts key held l.owner) (followed_owned (place_of key (held_keys u.accounts)) u.accounts.owner)

-- A use of the key that is first changes nothing
followed_first : (o : Owner) → followed 0 o ≡ o
followed_first None = refl
followed_first (Some zero) = refl
followed_first (Some (suc p)) = rw (ne_eqb (suc p) 0 (λ e. omega arith), le-ltb (suc p) 0 (omega arith))

pub used_first : (a : Accounts) → AccountsLines a → 0 < a.count → key_used (get_or (held_keys a) 0 []) a ≡ a
unfolding held_keys
used_first a l nonempty =
    let here = used_place a l 0 nonempty in
    let first = row_at account_key_size a.count a.keys 0 nonempty in
    let table : get_or (held_keys a) 0 [] ++ drop account_key_size a.keys ≡ a.keys
    = ap (λ (k : List ℕ). k ++ drop account_key_size a.keys) first ∙ take-append-drop account_key_size a.keys in
    rw here (λ i. record { count = a.count; owner = followed_first a.owner i; keys = table i })
