-- What an accepted write did, as far as nonce and keys go: it set a waiting key, it cleared, it recovered, it used an account key, or it left
-- nonce, account keys and both identity keys alone. Each handler is gone through once, check by check.
use Prim.Native.Nat.{ℕ, ◌≤◌, ◌<◌}
use mathlib.Core.Path.{◌≡◌, refl, sym, ap, ◌∙◌}
use mathlib.Core.Bool.{Bool, true, false, cond, ◌&&◌, ◌||◌}
use mathlib.Core.List.{List}
use mathlib.Core.Option.{Option, some, none}
use native.Mathlib.Omega.{arith}
use lib.Dec.{leb, ltb}
use borrow.Author.Tests.{eqb-true}
use Rattle.laws.specs.Answer.{gives}
use Rattle.wire.specs.Shape.{Request, parsed, shape_legal}
use Rattle.wire.specs.Signing.{recovery_key, ring_key, protection_key}
use Rattle.key_blocks.specs.KeyBlocks.{decrypted_key, encrypted_key}
use Rattle.unit.specs.declared.TagUnit.{TagUnit}
use Rattle.unit.specs.declared.Accounts.{Accounts}
use Rattle.tables.specs.Rows.{among, place_of}
use Rattle.unit.specs.WellFormed.{well_formed, held_keys, owner_key}
use Rattle.unit.proofs.Lines.{lines, held_count}
use Rattle.unit.specs.Ringable.{inside}
use Rattle.unit.specs.Change.{spent, with_accounts}
use Rattle.unit.specs.Outcome.{Outcome, giving, refusing}
use Rattle.account_keys.specs.Order.{key_used, after_use}
use Rattle.account_keys.proofs.Order.{place_found, key_owned_lem}
use Rattle.authentication.specs.Judgement.{Judgement, accepts, rejects, answered, under, used_key, signed_by_owner, tagged, proves, last_nonce, concluded}
use Rattle.parameter_read.specs.Parameters.{read_parameters}
use Rattle.state_read.specs.State.{read_state, owned_by}
use Rattle.provisioning.specs.Provisioning.{set_key, may_replace, awaiting}
use Rattle.clearing.specs.Clearing.{clear_key, cleared}
use Rattle.recovery.specs.Recovery.{recover_key}
use Rattle.ring_decisions.specs.declared.Decision.{Decision}
use Rattle.ring_values.specs.RingValues.{skips, ring_legal}
use Rattle.ringing.specs.Ringing.{ring, rung, read_sound}
use Rattle.protecting.specs.Protecting.{flag_of, protect, unprotect}
use Rattle.handlers.specs.ById.{by_id}
use Rattle.requests.specs.Write.{key_there, judged, written}
use Rattle.tag.specs.Calls.{Written, write, own, calls}
use Rattle.demanded_answers.specs.History.{step, Bytes}
use Rattle.demanded_refusals.proofs.KeyUses.{used_among, claimed_held, claimed_lines, claimed_legal, claimed_key, claimed_bytes, first_bytes_lem, held_bytes}
use Rattle.demanded_refusals.proofs.Writes.{owner_signed}
use Rattle.demanded_answers.proofs.Guards.{Met, barred, passed, met, not_both}

-- the same nonce, account keys, key in force and waiting key
pub record Alone (u v : TagUnit) : Type 0 where
  pub nonce : v.nonces ≡ u.nonces
  pub accounts : v.accounts ≡ u.accounts
  pub identity : v.identity ≡ u.identity
  pub waiting : v.waiting ≡ u.waiting

pub alone : (u : TagUnit) → Alone u u
alone u = search

-- an ID that neither sets nor recovers a key
pub record Keyless (id : ℕ) : Type 0 where
  pub not_set : id ≡ 0x02 → ⊥
  pub not_recovered : id ≡ 0x04 → ⊥

-- a key that 0x00 or 0x01 used, and the accounts then
pub data Uses (u : TagUnit) (q : Request) : Accounts → Type 0 where
  for_parameters : (key : List ℕ) → q.id ≡ 0x00 → used_key u q ≡ some key → Uses u q (key_used key u.accounts)
  for_state : (key : List ℕ) → q.id ≡ 0x01 → used_key u q ≡ some key → Uses u q (key_used key (owned_by key u.accounts))

-- What the request q did with the unit u that it was judged on
pub data Did (u : TagUnit) (q : Request) : Judgement → Type 0 where
  refused : (n : ℕ) → Did u q (rejects n)
  set : {answer : List ℕ} (key : List ℕ) → q.id ≡ 0x02 → owner_key u.accounts ≡ some key
      → Did u q (accepts (awaiting (decrypted_key key q.additional) (after_use key u)) answer)
  clear : {answer : List ℕ} → q.id ≡ 0x03 → Did u q (accepts (cleared u) answer)
  recovered : (key : List ℕ) → q.id ≡ 0x04 → owner_key u.accounts ≡ some key
      → Did u q (accepts u (answered (recovery_key u.identity.bytes) u q (encrypted_key key u.identity.bytes)))
  used : {a : Accounts} {answer : List ℕ} → Keyless q.id → Uses u q a → Did u q (accepts (with_accounts a u) answer)
  other : {v : TagUnit} {answer : List ℕ} → 0x05 ≤ q.id → Alone u v → Did u q (accepts v answer)

-- What holds on both sides of a choice holds of the choice
pub choose : {A : Type 0} (P : A → Type 0) (b : Bool) {x y : A} → (b ≡ true → P x) → (b ≡ false → P y) → P (cond b x y)
choose P true f g = f refl
choose P false f g = g refl

module _ (u : TagUnit) (q : Request) where
  abbrev Rules : Judgement → Type 0
  Rules j = Did u q j

  checked : (ok : Bool) (n : ℕ) {next : Judgement} → Rules next → Rules (cond ok next (rejects n))
  checked ok n next = choose Rules ok (λ e. next) (λ e. refused n)

  with_key : (o : Option (List ℕ)) (g : List ℕ → Judgement) → ((key : List ℕ) → o ≡ some key → Rules (g key)) → Rules (under o g)
  with_key (some key) g h = h key refl
  with_key none g h = refused 0x80

  did_set : q.id ≡ 0x02 → Rules (set_key u q)
  unfolding set_key
  did_set e = with_key (signed_by_owner u q) _ (λ key o. checked (may_replace u q) 0x80 (set key e (owner_signed u q key o)))

  did_clear : q.id ≡ 0x03 → Rules (clear_key u q)
  unfolding clear_key
  did_clear e = with_key (signed_by_owner u q) _ (λ key o. checked (proves u q.additional) 0x80 (clear e))

  did_recover : q.id ≡ 0x04 → Rules (recover_key u q)
  unfolding recover_key
  did_recover e =
      with_key (owner_key u.accounts) _
      (λ key o.
      checked (tagged (recovery_key u.identity.bytes) (last_nonce u) q) 0x80
      (checked (ltb 0 u.consent || u.pairing) 0x82 (recovered key e o)))

  module _ (k : Keyless q.id) where
    did_parameters : q.id ≡ 0x00 → Rules (read_parameters u q)
    unfolding read_parameters
    did_parameters id = with_key (used_key u q) _ (λ key e. used k (for_parameters key id e))

    did_state : q.id ≡ 0x01 → Rules (read_state u q)
    unfolding read_state
    did_state id = with_key (used_key u q) _ (λ key e. used k (for_state key id e))

  module _ (k : 0x05 ≤ q.id) where
    did_rung : (d : Decision) (volume left : ℕ) → Rules (rung d u volume left)
    unfolding rung
    did_rung (Decision.Started mask) volume left = other k (record { nonce = refl; accounts = refl; identity = refl; waiting = refl })
    did_rung Decision.Stopped volume left = other k (record { nonce = refl; accounts = refl; identity = refl; waiting = refl })
    did_rung Decision.Failed volume left = other k (alone u)

    did_ring : (reach : ℕ) → Rules (ring u q reach)
    unfolding ring
    did_ring reach =
        checked (skips u.protection || tagged (ring_key u.identity.bytes) (last_nonce u) q) 0x80
        (checked (ring_legal u.settings q.additional) 0x81 (did_rung _ _ _))

    did_sound : Rules (read_sound u q)
    unfolding read_sound
    did_sound = checked (tagged (ring_key u.identity.bytes) (last_nonce u) q) 0x80 (other k (alone u))

    did_protect : Rules (protect u q)
    unfolding protect
    did_protect =
        checked (tagged (protection_key u.identity.bytes) (last_nonce u) q) 0x80
        (checked (leb (flag_of q.additional) 1) 0x81 (other k (search)))

    did_unprotect : Rules (unprotect u q)
    unfolding unprotect
    did_unprotect =
        checked (tagged (protection_key u.identity.bytes) (last_nonce u) q && proves u q.additional) 0x80
        (other k (search))

  -- `omega` sees that the other IDs neither set nor recover a key
  by_id_lem : (reach : ℕ) → Rules (by_id u q reach)
  unfolding by_id
  by_id_lem reach =
      choose Rules _ (λ e. let n = eqb-true q.id 0 e in did_parameters (omega arith) n) (λ _.
      choose Rules _ (λ e. let n = eqb-true q.id 1 e in did_state (omega arith) n) (λ _.
      choose Rules _ (λ e. did_set (eqb-true q.id 2 e)) (λ _.
      choose Rules _ (λ e. did_clear (eqb-true q.id 3 e)) (λ _.
      choose Rules _ (λ e. did_recover (eqb-true q.id 4 e)) (λ _.
      choose Rules _ (λ e. let n = eqb-true q.id 5 e in did_ring (omega arith) reach) (λ _.
      choose Rules _ (λ e. let n = eqb-true q.id 6 e in did_sound (omega arith)) (λ _.
      choose Rules _ (λ e. let n = eqb-true q.id 7 e in did_protect (omega arith)) (λ _.
      choose Rules _ (λ e. let n = eqb-true q.id 8 e in did_unprotect (omega arith)) (λ _. refused 0x81)))))))))

-- How a write that passed 6 and 2 ended; where it did not pass 1, nothing happened
pub data Ended (u : TagUnit) (w : Written) : Outcome → Type 0 where
  unreached : (n : ℕ) → inside w.reach u.settings.components ≡ false → Ended u w (refusing n u)
  turned : (n : ℕ) → Ended u w (refusing n (spent u))
  served : {v : TagUnit} {answer : List ℕ} → shape_legal w.bytes ≡ true → u.nonces.live ≡ true → Did (spent u) (parsed w.bytes) (accepts v answer)
      → Ended u w (giving answer v)

module _ (u : TagUnit) (w : Written) where
  concluded_so : {j : Judgement} → shape_legal w.bytes ≡ true → u.nonces.live ≡ true → Did (spent u) (parsed w.bytes) j
      → Ended u w (concluded (spent u) j)
  concluded_so s l (refused n) = turned n
  concluded_so s l (set key e o) = served s l (set key e o)
  concluded_so s l (clear e) = served s l (clear e)
  concluded_so s l (recovered key e o) = served s l (recovered key e o)
  concluded_so s l (used k a) = served s l (used k a)
  concluded_so s l (other k a) = served s l (other k a)

  pub ends_written : Ended u w (written u w.bytes w.reach)
  unfolding written judged
  ends_written =
      let P : Judgement → Type 0 = λ j. Ended u w (concluded (spent u) j) in
      choose (Ended u w) (inside w.reach u.settings.components)
      (λ r.
      choose P (shape_legal w.bytes)
      (λ s.
      choose P u.nonces.live
      (λ l. choose P (key_there u (parsed w.bytes)) (λ k. concluded_so s l (by_id_lem (spent u) (parsed w.bytes) w.reach)) (λ k. turned 0x80))
      (λ l. turned 0x80))
      (λ s. turned 0x81))
      (λ r. unreached 1 r)

-- An accepted write: on a well-formed unit with a live nonce, of a legal shape
pub record Served (u : TagUnit) (w : Written) (room : ℕ) (answer : List ℕ) : Type 0 where
  pub formed : well_formed u ≡ true
  pub legal : shape_legal w.bytes ≡ true
  pub live : u.nonces.live ≡ true
  pub did : Did (spent u) (parsed w.bytes) (accepts (step (calls (write w) room) u).unit answer)

module _ (w : Written) (room : ℕ) (u : TagUnit) (answer : List ℕ) where
  from_written : {o : Outcome} → well_formed u ≡ true → step (calls (write w) room) u ≡ o → Ended u w o → o.result ≡ gives answer
      → Served u w room answer
  from_written formed e (unreached n out) r = absurd (let z : ◌≡◌ {A = ℕ} 0 1 = cc in omega arith)
  from_written formed e (turned n) r = absurd (let z : ◌≡◌ {A = ℕ} 0 1 = cc in omega arith)
  from_written formed e (served {answer = a} s l did) r =
      let given : a ≡ answer = cc in
      record { formed = formed; legal = s; live = l; did = rw e (rw given at did) }

  pub accepted_write : (step (calls (write w) room) u).result ≡ gives answer → Served u w room answer
  unfolding own
  accepted_write r = go (met (calls (write w) room) u)
    where
      go : Met (calls (write w) room) u → Served u w room answer
      go (barred n e bars) = absurd (not_both (calls (write w) room) u e (answer, r))
      go (passed fits formed e) = from_written formed e (ends_written u w) (sym (ap (λ (o : Outcome). o.result) e) ∙ r)

-- A key that 0x00 or 0x01 used
module _ {u : TagUnit} {q : Request} where
  pub uses_bytes : {a : Accounts} → Uses u q a → Bytes u.accounts.keys → Bytes a.keys
  uses_bytes (for_parameters key id e) b =
      first_bytes_lem (place_of key (held_keys u.accounts)) key u.accounts.keys (held_bytes u.accounts key (used_among u q key e) b) b
  uses_bytes (for_state key id e) b =
      let is = claimed_bytes u.accounts.owner key u.accounts in
      first_bytes_lem (place_of key (held_keys (owned_by key u.accounts))) key (owned_by key u.accounts).keys (held_bytes u.accounts key (used_among u q key e) b) (rw is b)

module _ (u : TagUnit) (q : Request) (w : well_formed u ≡ true) where
  pub within : (key : List ℕ) → used_key u q ≡ some key → place_of key (held_keys u.accounts) < u.accounts.count
  within key e = omega (arith, (place_found key (held_keys u.accounts) (used_among u q key e)).0, held_count u.accounts)

  pub owned_held : (key : List ℕ) → used_key u q ≡ some key → among key (held_keys (owned_by key u.accounts)) ≡ true
  owned_held key e = rw (claimed_held u.accounts.owner key u.accounts) (used_among u q key e)

  pub uses_key : {a : Accounts} → Uses u q a → (key : List ℕ) → owner_key u.accounts ≡ some key → owner_key a ≡ some key
  uses_key (for_parameters key id e) owner h =
      let l = lines u w in
      key_owned_lem u.accounts l.accounts key (used_among u q key e) l.owner ∙ h
  uses_key (for_state key id e) owner h =
      let l = lines u w in
      key_owned_lem (owned_by key u.accounts) (claimed_lines u.accounts.owner key u.accounts l.accounts) key (owned_held key e)
      (claimed_legal u.accounts.owner key u.accounts (within key e) l.owner)
      ∙ claimed_key u.accounts.owner key u.accounts refl owner h
