-- What an accepted write did to sound and consent, what its answer begins with, and which key tagged it. Each handler is gone through once,
-- check by check.
use Prim.Native.Nat.{ℕ, ◌≤◌, ◌<◌}
use mathlib.Core.Path.{◌≡◌, refl, sym, ap, ◌∙◌}
use mathlib.Core.Bool.{Bool, true, false, cond, ◌&&◌, ◌||◌}
use mathlib.Core.List.{List, ◌∷◌}
use mathlib.Core.Logic.{◌⊎◌, inl, inr}
use mathlib.Core.Option.{Option, some, none}
use native.Mathlib.Omega.{arith}
use lib.Dec.{eqb, leb, ltb}
use lib.ListN.{get_or, drop}
use borrow.Author.Tests.{eqb-true}
use Rattle.laws.specs.Answer.{gives}
use Rattle.laws.proofs.Flags.{and_left, or_cases}
use Rattle.wire.specs.Shape.{Request, parsed, shape_legal}
use Rattle.laws.specs.Bytes.{big_endian}
use Rattle.wire.specs.Signing.{derived_key, recovery_key, ring_key, protection_key, signed, ring_id, ring_notice, started, failed, by_request}
use Rattle.unit.specs.declared.TagUnit.{TagUnit}
use Rattle.unit.specs.declared.Sound.{Sound}
use Rattle.unit.specs.declared.Protection.{Protection}
use Rattle.unit.specs.WellFormed.{well_formed, held_keys, owner_key}
use Rattle.unit.specs.Ringable.{inside}
use Rattle.unit.specs.Change.{spent, with_sound, silenced}
use Rattle.unit.specs.Outcome.{Outcome, giving, refusing}
use Rattle.unit.proofs.Lines.{held_count}
use Rattle.unit.proofs.Kept.{spent_kept}
use Rattle.authentication.specs.Judgement.{Judgement, accepts, rejects, under, used_key, only_if, signed_by_owner, tagged, proves, last_nonce, concluded}
use Rattle.parameter_read.specs.Parameters.{read_parameters}
use Rattle.state_read.specs.State.{read_state}
use Rattle.provisioning.specs.Provisioning.{set_key, may_replace}
use Rattle.clearing.specs.Clearing.{clear_key, cleared}
use Rattle.recovery.specs.Recovery.{recover_key}
use Rattle.ring_decisions.specs.declared.Decision.{Decision}
use Rattle.ring_values.specs.RingValues.{skips, ring_legal, ring_mask, held_volume, asked_timeout, sound_state as sound_bytes}
use Rattle.ring_decisions.specs.Decisions.{reached, out_of_reach, stop_decision, ring_decision}
use Rattle.ringing.specs.Ringing.{ring, rung, read_sound}
use Rattle.protecting.specs.Protecting.{flag_of, protect, unprotect}
use Rattle.handlers.specs.ById.{by_id}
use Rattle.requests.specs.Write.{key_there, judged, written}
use Rattle.tag.specs.Calls.{Written, own}
use Rattle.demanded_answers.specs.Spelled.{key_at_place, OwnedWith}
use Rattle.demanded_answers.specs.History.{step, writes}
use Rattle.demanded_nonces.specs.Nonces.{MayTag, parameters, state, key_set, cleared as may_clear, recovery, ring as may_ring, sound_state, protected, unprotected}
use Rattle.demanded_refusals.proofs.Choices.{tested}
use Rattle.demanded_answers.proofs.Judging.{data_signed, status_signed}
use Rattle.demanded_answers.proofs.Guards.{Met, barred, passed, met, not_both}
use Rattle.demanded_nonces.proofs.KeyPlaces.{found_at, held_at, owned_with}

-- the tag is that of a key that may tag such a write, or none was asked
pub data Authorised (u : TagUnit) (q : Request) : Type 0 where
  signed_by : (key : List ℕ) → MayTag u q.id key → tagged key (last_nonce u) q ≡ true → Authorised u q
  unasked : q.id ≡ 0x05 → u.protection ≡ Protection.On true → Authorised u q

-- the same sound with its nonce, identity key and consent
pub record Left (u v : TagUnit) : Type 0 where
  pub sound : v.sound ≡ u.sound
  pub ring_nonce_is : v.ring_nonce ≡ u.ring_nonce
  pub identity : v.identity ≡ u.identity
  pub consent : v.consent ≡ u.consent

-- what it did, with the parts that were in reach; a ring notice says it by its status
pub data Effect (u : TagUnit) (q : Request) (reach : ℕ) (v : TagUnit) (answer : List ℕ) : Type 0 where
  apart : get_or answer 0 0 ≡ q.id → (q.id ≡ 0x05 → ⊥) → Left u v → Effect u q reach v answer
  rings : (mask : ℕ) → q.id ≡ 0x05 → get_or answer 10 0 ≡ 0
      → v ≡ with_sound (Sound.Ringing (reached mask reach) (held_volume u.settings q.additional) (asked_timeout q.additional)) (last_nonce u) u
      → Effect u q reach v answer
  stops : q.id ≡ 0x05 → get_or answer 10 0 ≡ 4 → v ≡ silenced u → Effect u q reach v answer
  fails : q.id ≡ 0x05 → get_or answer 0 0 ≡ 0x05 → get_or answer 10 0 ≡ 1 → drop 10 answer ≡ 1 ∷ sound_bytes u.sound → v ≡ u → Effect u q reach v answer
  clears : q.id ≡ 0x03 → v.sound ≡ Sound.Silent → v.consent ≡ 0 → Effect u q reach v answer

-- How the request q was judged on the unit u
pub data Judged (u : TagUnit) (q : Request) (reach : ℕ) : Judgement → Type 0 where
  refused : (n : ℕ) → Judged u q reach (rejects n)
  granted : {v : TagUnit} {answer : List ℕ} → Authorised u q → Effect u q reach v answer → Judged u q reach (accepts v answer)

unchanged : (u : TagUnit) → Left u u
unchanged u = record { sound = refl; ring_nonce_is = refl; identity = refl; consent = refl }

-- the owner's key where it signed
signed_owner : (p : List ℕ → Bool) (o : Option (List ℕ)) (key : List ℕ) → only_if p o ≡ some key → (o ≡ some key) × (p key ≡ true)
signed_owner p none key e = let z : ◌≡◌ {A = ℕ} 0 1 = cc in absurd (omega arith)
signed_owner p (some k) key e = go (p k) refl e
  where
    go : (b : Bool) → p k ≡ b → cond b (some k) none ≡ some key → (some k ≡ some key) × (p key ≡ true)
    go true t h = let same : k ≡ key = cc in (h, rw same at t)
    go false t h = let z : ◌≡◌ {A = ℕ} 0 1 = cc in absurd (omega arith)

skips_on : (p : Protection) → skips p ≡ true → p ≡ Protection.On true
skips_on Protection.Off e = let z : ◌≡◌ {A = ℕ} 0 1 = cc in absurd (omega arith)
skips_on (Protection.On skip) e = rw e

module _ (u : TagUnit) (w : well_formed u ≡ true) (q : Request) (reach : ℕ) where
  abbrev J : Judgement → Type 0
  J j = Judged u q reach j

  checked : (ok : Bool) (n : ℕ) {next : Judgement} → (ok ≡ true → J next) → J (cond ok next (rejects n))
  checked ok n next = tested J ok next (λ e. refused n)

  with_key : (o : Option (List ℕ)) (g : List ℕ → Judgement) → ((key : List ℕ) → o ≡ some key → J (g key)) → J (under o g)
  with_key (some key) g h = h key refl
  with_key none g h = refused 0x80

  -- an account key that was used is one of those held
  by_account : (key : List ℕ) → used_key u q ≡ some key → ((p : ℕ) → p < u.accounts.count → MayTag u q.id (key_at_place u p)) → Authorised u q
  unfolding used_key
  by_account key e may =
      let f = found_at (λ k. tagged k (last_nonce u) q) (held_keys u.accounts) key e in
      let below : f.place < u.accounts.count = omega (arith, f.below, held_count u.accounts) in
      let here : key_at_place u f.place ≡ key = sym (held_at u f.place below) ∙ f.there in
      signed_by key (rw here at (may f.place below)) f.passes

  by_owner : (key : List ℕ) → signed_by_owner u q ≡ some key → (OwnedWith u key → MayTag u q.id key) → Authorised u q
  unfolding signed_by_owner
  by_owner key e may =
      let s = signed_owner (λ k. tagged k (last_nonce u) q) (owner_key u.accounts) key e in
      signed_by key (may (owned_with u w key s.0)) s.1

  parameters_judged : q.id ≡ 0x00 → J (read_parameters u q)
  unfolding read_parameters signed
  parameters_judged e =
      with_key (used_key u q) _
      (λ key f.
      granted (by_account key f (λ p below. rw e (parameters p below)))
      (apart refl (λ (z : q.id ≡ 0x05). omega arith) (record { sound = refl; ring_nonce_is = refl; identity = refl; consent = refl })))

  state_judged : q.id ≡ 0x01 → J (read_state u q)
  unfolding read_state signed
  state_judged e =
      with_key (used_key u q) _
      (λ key f.
      granted (by_account key f (λ p below. rw e (state p below)))
      (apart refl (λ (z : q.id ≡ 0x05). omega arith) (record { sound = refl; ring_nonce_is = refl; identity = refl; consent = refl })))

  set_judged : q.id ≡ 0x02 → J (set_key u q)
  unfolding set_key signed
  set_judged e =
      with_key (signed_by_owner u q) _
      (λ key f.
      checked (may_replace u q) 0x80
      (λ ok.
      granted (by_owner key f (λ o. rw e (key_set o)))
      (apart refl (λ (z : q.id ≡ 0x05). omega arith) (record { sound = refl; ring_nonce_is = refl; identity = refl; consent = refl }))))

  clear_judged : q.id ≡ 0x03 → J (clear_key u q)
  unfolding clear_key cleared
  clear_judged e =
      with_key (signed_by_owner u q) _
      (λ key f. checked (proves u q.additional) 0x80 (λ ok. granted (by_owner key f (λ o. rw e (may_clear o))) (clears e refl refl)))

  recover_judged : q.id ≡ 0x04 → J (recover_key u q)
  unfolding recover_key signed derived_key
  recover_judged e =
      with_key (owner_key u.accounts) _
      (λ key o.
      checked (tagged (recovery_key u.identity.bytes) (last_nonce u) q) 0x80
      (λ t.
      checked (ltb 0 u.consent || u.pairing) 0x82
      (λ ok.
      granted (signed_by (recovery_key u.identity.bytes) (rw e recovery) t) (apart refl (λ (z : q.id ≡ 0x05). omega arith) (unchanged u)))))

  by_ring_key : q.id ≡ 0x05 → skips u.protection || tagged (ring_key u.identity.bytes) (last_nonce u) q ≡ true → Authorised u q
  unfolding derived_key
  by_ring_key e t = go (or_cases (skips u.protection) _ t)
    where
      go : (skips u.protection ≡ true) ⊎ (tagged (ring_key u.identity.bytes) (last_nonce u) q ≡ true) → Authorised u q
      go (inl s) = unasked e (skips_on u.protection s)
      go (inr s) = signed_by (ring_key u.identity.bytes) (rw e may_ring) s

  -- a stop, by what sounds, and a ring
  abbrev Rung : Decision → Type 0
  Rung d = J (rung d u (held_volume u.settings q.additional) (asked_timeout q.additional))

  failed_so : Authorised u q → q.id ≡ 0x05 → Rung Decision.Failed
  unfolding rung signed
  failed_so auth e =
      let key = ring_key u.identity.bytes in
      granted auth
      (fails e refl (status_signed key (last_nonce u) ring_id failed (sound_bytes u.sound))
      (data_signed key (last_nonce u) ring_id (failed ∷ sound_bytes u.sound)) refl)

  stopped_so : Authorised u q → q.id ≡ 0x05 → Rung Decision.Stopped
  unfolding rung ring_notice
  stopped_so auth e = granted auth (stops e (status_signed (ring_key u.identity.bytes) (last_nonce u) ring_id by_request (0 ∷ big_endian 2 0)) refl)

  started_so : (mask : ℕ) → Authorised u q → q.id ≡ 0x05 → Rung (Decision.Started (reached mask reach))
  unfolding rung ring_notice
  started_so mask auth e =
      let left = asked_timeout q.additional in
      granted auth (rings mask e (status_signed (ring_key u.identity.bytes) (last_nonce u) ring_id started (reached mask reach ∷ big_endian 2 left)) refl)

  stop_so : (s : Sound) → Authorised u q → q.id ≡ 0x05 → Rung (stop_decision s reach)
  stop_so Sound.Silent auth e = stopped_so auth e
  stop_so (Sound.Ringing mask volume left) auth e = tested Rung (out_of_reach mask reach) (λ none. failed_so auth e) (λ some. stopped_so auth e)

  ring_judged : q.id ≡ 0x05 → J (ring u q reach)
  unfolding ring ring_decision
  ring_judged e =
      let mask = ring_mask u.settings q.additional in
      checked (skips u.protection || tagged (ring_key u.identity.bytes) (last_nonce u) q) 0x80
      (λ t.
      checked (ring_legal u.settings q.additional) 0x81
      (λ legal.
      tested Rung (eqb mask 0)
      (λ none. stop_so u.sound (by_ring_key e t) e)
      (λ some.
      tested Rung (out_of_reach mask reach) (λ out. failed_so (by_ring_key e t) e) (λ part. started_so mask (by_ring_key e t) e))))

  sound_judged : q.id ≡ 0x06 → J (read_sound u q)
  unfolding read_sound signed derived_key
  sound_judged e =
      checked (tagged (ring_key u.identity.bytes) (last_nonce u) q) 0x80
      (λ t. granted (signed_by (ring_key u.identity.bytes) (rw e sound_state) t) (apart refl (λ (z : q.id ≡ 0x05). omega arith) (unchanged u)))

  protect_judged : q.id ≡ 0x07 → J (protect u q)
  unfolding protect signed derived_key
  protect_judged e =
      checked (tagged (protection_key u.identity.bytes) (last_nonce u) q) 0x80
      (λ t.
      checked (leb (flag_of q.additional) 1) 0x81
      (λ ok.
      granted (signed_by (protection_key u.identity.bytes) (rw e protected) t)
      (apart refl (λ (z : q.id ≡ 0x05). omega arith) (record { sound = refl; ring_nonce_is = refl; identity = refl; consent = refl }))))

  unprotect_judged : q.id ≡ 0x08 → J (unprotect u q)
  unfolding unprotect signed derived_key
  unprotect_judged e =
      checked (tagged (protection_key u.identity.bytes) (last_nonce u) q && proves u q.additional) 0x80
      (λ t.
      granted (signed_by (protection_key u.identity.bytes) (rw e unprotected) (and_left _ _ t))
      (apart refl (λ (z : q.id ≡ 0x05). omega arith) (record { sound = refl; ring_nonce_is = refl; identity = refl; consent = refl })))

  pub judged_so_lem : J (by_id u q reach)
  unfolding by_id
  judged_so_lem =
      tested J _ (λ e. parameters_judged (eqb-true q.id 0 e)) (λ _.
      tested J _ (λ e. state_judged (eqb-true q.id 1 e)) (λ _.
      tested J _ (λ e. set_judged (eqb-true q.id 2 e)) (λ _.
      tested J _ (λ e. clear_judged (eqb-true q.id 3 e)) (λ _.
      tested J _ (λ e. recover_judged (eqb-true q.id 4 e)) (λ _.
      tested J _ (λ e. ring_judged (eqb-true q.id 5 e)) (λ _.
      tested J _ (λ e. sound_judged (eqb-true q.id 6 e)) (λ _.
      tested J _ (λ e. protect_judged (eqb-true q.id 7 e)) (λ _.
      tested J _ (λ e. unprotect_judged (eqb-true q.id 8 e)) (λ _. refused 0x81)))))))))

-- How a write that passed 6 and 2 ended; where it did not pass 1, nothing happened
pub data Ending (u : TagUnit) (w : Written) : Outcome → Type 0 where
  unreached : (n : ℕ) → Ending u w (refusing n u)
  turned : (n : ℕ) → Ending u w (refusing n (spent u))
  served : {v : TagUnit} {answer : List ℕ} → inside w.reach u.settings.components ≡ true → shape_legal w.bytes ≡ true
      → u.nonces.live ≡ true → Authorised (spent u) (parsed w.bytes) → Effect (spent u) (parsed w.bytes) w.reach v answer → Ending u w (giving answer v)

module _ (u : TagUnit) (w : Written) where
  concluded_so : {j : Judgement} → inside w.reach u.settings.components ≡ true → shape_legal w.bytes ≡ true → u.nonces.live ≡ true
      → Judged (spent u) (parsed w.bytes) w.reach j → Ending u w (concluded (spent u) j)
  concluded_so r s l (refused n) = turned n
  concluded_so r s l (granted a e) = served r s l a e

  pub written_so : well_formed u ≡ true → Ending u w (written u w.bytes w.reach)
  unfolding written judged
  written_so formed =
      let P : Judgement → Type 0 = λ j. Ending u w (concluded (spent u) j) in
      tested (Ending u w) (inside w.reach u.settings.components)
      (λ r.
      tested P (shape_legal w.bytes)
      (λ s.
      tested P u.nonces.live
      (λ l.
      tested P (key_there u (parsed w.bytes))
      (λ k. concluded_so r s l (judged_so_lem (spent u) (spent_kept u formed) (parsed w.bytes) w.reach)) (λ k. turned 0x80))
      (λ l. turned 0x80))
      (λ s. turned 0x81))
      (λ r. unreached 1)

-- An accepted write
pub record Admitted (u : TagUnit) (w : Written) (room : ℕ) (v : TagUnit) (answer : List ℕ) : Type 0 where
  pub fits : 42 ≤ room
  pub formed : well_formed u ≡ true
  pub within : inside w.reach u.settings.components ≡ true
  pub legal : shape_legal w.bytes ≡ true
  pub live : u.nonces.live ≡ true
  pub authorised : Authorised (spent u) (parsed w.bytes)
  pub effect : Effect (spent u) (parsed w.bytes) w.reach v answer

module _ (w : Written) (room : ℕ) (u : TagUnit) (answer : List ℕ) where
  from_written : {o : Outcome} → 42 ≤ room → well_formed u ≡ true → step (writes w room) u ≡ o → Ending u w o → o.result ≡ gives answer
      → Admitted u w room (step (writes w room) u).unit answer
  from_written fits formed e (unreached n) r = absurd (let z : ◌≡◌ {A = ℕ} 0 1 = cc in omega arith)
  from_written fits formed e (turned n) r = absurd (let z : ◌≡◌ {A = ℕ} 0 1 = cc in omega arith)
  from_written fits formed e (served {answer = a} i s l auth eff) r =
      let given : a ≡ answer = cc in
      record { fits = fits; formed = formed; within = i; legal = s; live = l; authorised = auth; effect = rw e (rw given at eff) }

  pub admitted : (step (writes w room) u).result ≡ gives answer → Admitted u w room (step (writes w room) u).unit answer
  unfolding own
  admitted r = go (met (writes w room) u)
    where
      go : Met (writes w room) u → Admitted u w room (step (writes w room) u).unit answer
      go (barred n e bars) = absurd (not_both (writes w room) u e (answer, r))
      go (passed fits formed e) = from_written fits formed e (written_so u w formed) (sym (ap (λ (o : Outcome). o.result) e) ∙ r)
