-- The judgement of 0x01, from what its handler tests: a key that was found, whose it is, what stands.
use Prim.Native.Nat.{ℕ, ◌<◌}
use mathlib.Core.Path.{◌≡◌, refl, sym, ap, ◌∙◌}
use mathlib.Core.Bool.{Bool, true, false}
use mathlib.Core.List.{List, [], ◌∷◌}
use mathlib.Core.Option.{some, none}
use native.Mathlib.Omega.{arith}
use lib.Dec.{eqb}
use lib.ListN.{length, get_or}
use borrow.Author.Tests.{eq-eqb, eqb-true, ltb-true, lt-ltb}
use Rattle.std.specs.Option.{option_eq}
use Rattle.std.specs.Prelude.{Some, None}
use Rattle.laws.specs.Bytes.{same_bytes}
use Rattle.laws.proofs.Flags.{agree}
use Rattle.laws.proofs.Same.{same_refl, same_equal}
use Rattle.tables.specs.Rows.{place_of}
use Rattle.tables.proofs.Rows.{place_at}
use Rattle.wire.specs.Shape.{Request}
use Rattle.unit.specs.Change.{with_accounts, with_owner}
use Rattle.identifier.specs.declared.Identifier.{Identifier}
use Rattle.standing.specs.Standing.{shown_identifier, stands, Current}
use Rattle.unit.specs.WellFormed.{held_keys, owner_key, accounts_legal, owner_legal}
use Rattle.unit.specs.declared.TagUnit.{TagUnit}
use Rattle.unit.specs.declared.Accounts.{Accounts}
use Rattle.unit.specs.Types.{Owner}
use Rattle.unit.proofs.Lines.{accounts_lines, held_count}
use Rattle.authentication.specs.Judgement.{accepts, not_authenticated, answered, used_key}
use Rattle.account_keys.specs.Order.{key_used}
use Rattle.state_read.specs.State.{claimed, owned_by, is_key, state_bits, read_state}

-- The owner by its key's bytes and by its place: no two keys held are equal
module _ (a : Accounts) (place : ℕ) (legal : accounts_legal a ≡ true) (there : place < length (held_keys a)) where
  pub claims : a.owner ≡ None → with_owner (Some place) a ≡ owned_by (get_or (held_keys a) place []) a
  unfolding held_keys
  claims e =
      let here = place_at (held_keys a) place (accounts_lines a legal).different there in
      rw e (ap (λ (p : ℕ). with_owner (Some p) a) (sym here))

  pub owner_is_lem : (p : ℕ) → a.owner ≡ Some p → owner_legal a ≡ true → eqb p place ≡ is_key (owner_key a) (get_or (held_keys a) place [])
  unfolding owner_key owner_legal held_keys
  owner_is_lem p e legal-owner =
      let below = ltb-true p a.count (rw e at legal-owner) in
      let different = (accounts_lines a legal).different in
      rw e
      (agree (eqb p place) (same_bytes (get_or (held_keys a) p []) (get_or (held_keys a) place []))
      (λ t. rw (eqb-true p place t) (same_refl (get_or (held_keys a) place [])))
      (λ t.
      let same = same_equal (get_or (held_keys a) p []) (get_or (held_keys a) place []) t in
      eq-eqb p place
      (sym (place_at (held_keys a) p different (omega (arith, held_count a)))
      ∙ ap (λ (k : List ℕ). place_of k (held_keys a)) same
      ∙ place_at (held_keys a) place different there)))

  pub owner_none : a.owner ≡ None → false ≡ is_key (owner_key a) (get_or (held_keys a) place [])
  unfolding owner_key
  owner_none e = rw e

  pub owner_test : (o : Owner) → a.owner ≡ o → owner_legal a ≡ true
      → option_eq eqb o (Some place) ≡ is_key (owner_key a) (get_or (held_keys a) place [])
  owner_test None e legal-owner = owner_none e
  owner_test (Some p) e legal-owner = owner_is_lem p e legal-owner

-- The accounts after a key was used: the same keys, and an owner among them
claimed_held : (o : Owner) (key : List ℕ) (a : Accounts) → held_keys (claimed o key a) ≡ held_keys a
unfolding held_keys
claimed_held None key a = refl
claimed_held (Some p) key a = refl

claimed_legal : (o : Owner) (key : List ℕ) (a : Accounts) → accounts_legal a ≡ true → accounts_legal (claimed o key a) ≡ true
unfolding accounts_legal held_keys
claimed_legal None key a h = h
claimed_legal (Some p) key a h = h

claimed_owner : (o : Owner) (key : List ℕ) (a : Accounts) → place_of key (held_keys a) < a.count → owner_legal a ≡ true
    → owner_legal (claimed o key a) ≡ true
unfolding owner_legal
claimed_owner None key a h l = lt-ltb (place_of key (held_keys a)) a.count h
claimed_owner (Some p) key a h l = l

module _ (a : Accounts) (place : ℕ) {owned : Accounts} (is : owned ≡ owned_by (get_or (held_keys a) place []) a) where
  pub owned_held : held_keys owned ≡ held_keys a
  owned_held = rw is (claimed_held a.owner (get_or (held_keys a) place []) a)

  module _ (legal : accounts_legal a ≡ true) (there : place < length (held_keys a)) where
    pub owned_ready : owner_legal a ≡ true → ((accounts_legal owned ≡ true) × (owner_legal owned ≡ true)) × (place < length (held_keys owned))
    owned_ready owner =
        let key : List ℕ = get_or (held_keys a) place [] in
        let here = place_at (held_keys a) place (accounts_lines a legal).different there in
        let below : place_of key (held_keys a) < a.count = omega (arith, here, held_count a) in (
          (rw is (claimed_legal a.owner key a legal), rw is (claimed_owner a.owner key a below owner)),
          rw owned_held there,
        )

module _ (u : TagUnit) (q : Request) where
  pub state_nowhere : used_key u q ≡ none → read_state u q ≡ not_authenticated
  unfolding read_state
  state_nowhere e = rw e

-- 0x01: the accounts after it, the bits and what is shown
pub state_read_lem : (u : TagUnit) (q : Request) (place : ℕ) {shown : List ℕ} {owned used : Accounts} {owner : Bool} {bits : ℕ}
    → used_key u q ≡ some (get_or (held_keys u.accounts) place [])
    → owned ≡ owned_by (get_or (held_keys u.accounts) place []) u.accounts
    → owner ≡ is_key (owner_key owned) (get_or (held_keys owned) place []) → bits ≡ state_bits u.identity.held owner
    → shown ≡ shown_identifier u → used ≡ key_used (get_or (held_keys owned) place []) owned
    → read_state u q ≡ accepts (with_accounts used u) (answered (get_or (held_keys u.accounts) place []) u q (bits ∷ shown))
unfolding read_state
state_read_lem u q place {shown} {owned} {used} {owner} {bits} e o is b s a =
    let whose : owner ≡ is_key (owner_key owned) (get_or (held_keys u.accounts) place [])
    = is ∙ ap (λ (l : List (List ℕ)). is_key (owner_key owned) (get_or l place [])) (owned_held u.accounts place o) in
    let first : used ≡ key_used (get_or (held_keys u.accounts) place []) owned
    = a ∙ ap (λ (l : List (List ℕ)). key_used (get_or l place []) owned) (owned_held u.accounts place o) in
    rw (e, b, whose, s, first, o)

module _ (u : TagUnit) where
  pub shown_all : (i : Identifier) → Current u (Some i) → i.id ≡ shown_identifier u
  unfolding shown_identifier
  shown_all i c = rw (sym c.some_is) c.id_is

  pub shown_none : Current u None → [] ≡ shown_identifier u
  unfolding shown_identifier
  shown_none c = rw (sym c.some_is)
