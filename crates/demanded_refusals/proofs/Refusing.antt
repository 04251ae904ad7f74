-- Each reason of the list refuses: it is followed to the check that it fails.
use Prim.Native.Nat.{ℕ, suc, ◌≤◌, ◌<◌}
use mathlib.Core.Path.{◌≡◌, refl, sym, ap, ◌∙◌}
use mathlib.Core.Bool.{Bool, true, false, cond, not, ◌||◌}
use mathlib.Core.List.{List, [], ◌∷◌}
use mathlib.Core.Option.{Option, some, none}
use native.Mathlib.Omega.{arith}
use lib.Dec.{ltb}
use lib.ListN.{length, get_or, drop}
use borrow.Author.Tests.{le-ltb, lt-leb}
use Rattle.std.specs.Prelude.{Some, None}
use Rattle.laws.proofs.Flags.{and_fails_left, and_fails_right, or_left, or_right, fails}
use Rattle.laws.proofs.Same.{differ_same, equal_same}
use Rattle.tables.specs.Rows.{first_that}
use Rattle.wire.specs.Shape.{Request, shape_legal}
use Rattle.wire.specs.Signing.{derived_key, key_proof, request_tag}
use Rattle.unit.specs.declared.TagUnit.{TagUnit}
use Rattle.unit.specs.Types.{Owner}
use Rattle.unit.specs.declared.Protection.{Protection}
use Rattle.unit.specs.WellFormed.{held_keys, row_of, owner_key}
use Rattle.unit.specs.Change.{spent}
use Rattle.unit.proofs.Lines.{held_count}
use Rattle.authentication.specs.Judgement.{Judgement, rejects, under, tagged, proves, used_key, signed_by_owner}
use Rattle.parameter_read.specs.Parameters.{read_parameters}
use Rattle.state_read.specs.State.{read_state}
use Rattle.provisioning.specs.Provisioning.{may_replace, set_key}
use Rattle.clearing.specs.Clearing.{clear_key}
use Rattle.recovery.specs.Recovery.{recover_key}
use Rattle.ring_values.specs.RingValues.{skips}
use Rattle.ringing.specs.Ringing.{ring, read_sound}
use Rattle.protecting.specs.Protecting.{protect, unprotect}
use Rattle.handlers.specs.ById.{by_id}
use Rattle.requests.specs.Write.{judged}
use Rattle.demanded_answers.specs.Spelled.{key_from, proof_from, tag_from, key_at_place, OwnedWith}
use Rattle.demanded_answers.specs.RecordLines.{RecordLines}
use Rattle.demanded_refusals.specs.Refused.{LegalLength, of_parameters, of_state, of_first_key, of_next_key, of_clearing, of_recovery, of_ring, of_sound, of_protection, of_protection_flag, of_unprotection, Sent, Signer, sets_key, clears, recovers, rings, reads_sound, protects, unprotects, Skipped, Tagged, signed, skipped, IllegalRing, Reason, illegal_shape, no_live_nonce, no_identity_key, nobodys_tag, no_owner, wrong_tag, proof_of_no_key, key_without_proof, wrong_proof_of_held, wrong_proof, wrong_ring, wrong_flag, no_consent}
use Rattle.demanded_answers.proofs.Judging.{request_of}
use Rattle.demanded_answers.proofs.RecordLines.{key_at}
use Rattle.demanded_refusals.proofs.RingValues.{values_refused}
use Rattle.demanded_refusals.proofs.Sent.{sent_parts, sent_legal, legal_sent}

-- A choice between equals
pub same_either : {A : Type 0} (b : Bool) (x : A) → cond b x x ≡ x
same_either true x = refl
same_either false x = refl

-- Equations of tags and proofs, as the tests
module _ (key nonce : List ℕ) (id size : ℕ) (tag additional : List ℕ) where
  tag_fails : (tag ≡ tag_from key nonce id size additional → ⊥) → tagged key nonce (request_of id size tag additional) ≡ false
  unfolding tagged request_tag
  tag_fails h = differ_same (tag_from key nonce id size additional) tag (λ e. h (sym e))

  tag_passes : tag ≡ tag_from key nonce id size additional → tagged key nonce (request_of id size tag additional) ≡ true
  unfolding tagged request_tag
  tag_passes e = equal_same (tag_from key nonce id size additional) tag (sym e)

proof_fails : (u : TagUnit) (proof : List ℕ) → (proof ≡ proof_from u.identity.bytes u.nonces.newest → ⊥) → proves u proof ≡ false
unfolding key_proof
proof_fails u proof h = differ_same (proof_from u.identity.bytes u.nonces.newest) proof (λ e. h (sym e))

-- No row passes a test that all fail
all_fail : (test : List ℕ → Bool) (l : List (List ℕ)) → ((i : ℕ) → i < length l → test (get_or l i []) ≡ false) → first_that test l ≡ none
unfolding first_that
all_fail test [] h = refl
all_fail test (k ∷ ks) h = rw (h 0 (omega arith)) (all_fail test ks (λ i b. h (suc i) (omega arith)))

-- Where what follows is refused, so is the whole
under_refused : (o : Option (List ℕ)) (g : List ℕ → Judgement) → ((key : List ℕ) → g key ≡ rejects 0x80) → under o g ≡ rejects 0x80
under_refused (some key) g h = h key
under_refused none g h = refl

module _ (u : TagUnit) (w : List ℕ) (reach : ℕ) (l : RecordLines u) where
  module _ {id size : ℕ} {tag additional : List ℕ} (s : Sent w id size tag additional) where
    judged_as : judged u w reach
        ≡ cond u.nonces.live (cond (ltb id 3 || u.identity.held) (by_id (spent u) (request_of id size tag additional) reach) (rejects 0x80)) (rejects 0x80)
    unfolding judged
    judged_as = rw (sent_legal s, sent_parts s)

    unauthenticated : by_id (spent u) (request_of id size tag additional) reach ≡ rejects 0x80 → judged u w reach ≡ rejects 0x80
    unauthenticated e = judged_as ∙ rw e (rw (same_either (ltb id 3 || u.identity.held)) (same_either u.nonces.live (rejects 0x80)))

    after_tag : (n : ℕ) → u.nonces.live ≡ true → u.identity.held ≡ true → by_id (spent u) (request_of id size tag additional) reach ≡ rejects n
        → judged u w reach ≡ rejects n
    after_tag n live held e = judged_as ∙ rw (live, or_right (ltb id 3) held, e)

  -- 0x00 and 0x01: the tag of no held key
  unmatched : (id : ℕ) (tag additional : List ℕ)
      → ((p : ℕ) → p < u.accounts.count → tag ≡ tag_from (key_at_place u p) u.nonces.newest id 8 additional → ⊥)
      → used_key (spent u) (request_of id 8 tag additional) ≡ none
  unfolding used_key
  unmatched id tag additional h =
      all_fail (λ k. tagged k u.nonces.newest (request_of id 8 tag additional)) (held_keys u.accounts)
      (λ p b.
      let below : p < u.accounts.count = omega (arith, held_count u.accounts) in
      rw (key_at u p below) (tag_fails (key_at_place u p) u.nonces.newest id 8 tag additional (h p below)))

  nobodys : {id size : ℕ} (tag additional : List ℕ) → LegalLength id size → id ≤ 0x01
      → ((p : ℕ) → p < u.accounts.count → tag ≡ tag_from (key_at_place u p) u.nonces.newest id size additional → ⊥)
      → by_id (spent u) (request_of id size tag additional) reach ≡ rejects 0x80
  unfolding by_id read_parameters read_state
  nobodys tag additional of_parameters low h = rw (unmatched 0x00 tag additional h)
  nobodys tag additional of_state low h = rw (unmatched 0x01 tag additional h)
  nobodys tag additional of_first_key low h = absurd (omega arith)
  nobodys tag additional of_next_key low h = absurd (omega arith)
  nobodys tag additional of_clearing low h = absurd (omega arith)
  nobodys tag additional of_recovery low h = absurd (omega arith)
  nobodys tag additional of_ring low h = absurd (omega arith)
  nobodys tag additional of_sound low h = absurd (omega arith)
  nobodys tag additional of_protection low h = absurd (omega arith)
  nobodys tag additional of_protection_flag low h = absurd (omega arith)
  nobodys tag additional of_unprotection low h = absurd (omega arith)

  -- the owner's
  ownerless : (q : Request) → u.accounts.owner ≡ None → signed_by_owner (spent u) q ≡ none
  unfolding signed_by_owner owner_key
  ownerless q e = rw e

  set_by_nobody : (size : ℕ) (tag additional : List ℕ) → u.accounts.owner ≡ None
      → by_id (spent u) (request_of 0x02 size tag additional) reach ≡ rejects 0x80
  unfolding by_id set_key
  set_by_nobody size tag additional e = rw (ownerless (request_of 0x02 size tag additional) e)

  owner_is_lem : {key : List ℕ} → OwnedWith u key → owner_key u.accounts ≡ some key
  unfolding owner_key
  owner_is_lem (p, e, is) =
      ap (λ (o : Owner). row_of o (held_keys u.accounts)) e ∙ ap {B = Option (List ℕ)} (λ k. some k) (key_at u p (l.owner_held p e) ∙ is)

  not_owners : (q : Request) (key : List ℕ) → OwnedWith u key → tagged key u.nonces.newest q ≡ false → signed_by_owner (spent u) q ≡ none
  unfolding signed_by_owner
  not_owners q key o t = rw (owner_is_lem o, t)

  owned_by_some : u.identity.held ≡ true → (key : List ℕ) × (owner_key u.accounts ≡ some key)
  unfolding owner_key
  owned_by_some held = go u.accounts.owner refl
    where
      go : (o : Owner) → u.accounts.owner ≡ o → (key : List ℕ) × (row_of u.accounts.owner (held_keys u.accounts) ≡ some key)
      go None e = absurd (l.key_owned held e)
      go (Some p) e = (get_or (held_keys u.accounts) p [], rw e)

  not_skipping : (p : Protection) → (p ≡ Protection.On true → ⊥) → skips p ≡ false
  not_skipping Protection.Off h = refl
  not_skipping (Protection.On true) h = absurd (h refl)
  not_skipping (Protection.On false) h = refl

  wrong_tag_lem : {id : ℕ} {key : List ℕ} (size : ℕ) (tag additional : List ℕ) → Signer u id key → (Skipped u id → ⊥)
      → tagged key u.nonces.newest (request_of id size tag additional) ≡ false
      → by_id (spent u) (request_of id size tag additional) reach ≡ rejects 0x80
  unfolding by_id set_key clear_key recover_key ring read_sound protect unprotect derived_key
  wrong_tag_lem size tag additional (sets_key {key} o) unskipped t = rw (not_owners (request_of 0x02 size tag additional) key o t)
  wrong_tag_lem size tag additional (clears {key} o) unskipped t = rw (not_owners (request_of 0x03 size tag additional) key o t)
  wrong_tag_lem size tag additional recovers unskipped t = under_refused (owner_key u.accounts) _ (λ key. rw t)
  wrong_tag_lem size tag additional rings unskipped t = rw (not_skipping u.protection (λ e. unskipped (refl, e)), t)
  wrong_tag_lem size tag additional reads_sound unskipped t = rw t
  wrong_tag_lem size tag additional protects unskipped t = rw t
  wrong_tag_lem size tag additional unprotects unskipped t = rw t

  -- 0x02: a proof where no key is held, none where one is, and a wrong one
  not_replaced : (size : ℕ) (tag additional : List ℕ) → may_replace (spent u) (request_of 0x02 size tag additional) ≡ false
      → by_id (spent u) (request_of 0x02 size tag additional) reach ≡ rejects 0x80
  unfolding by_id set_key
  not_replaced size tag additional e =
      under_refused (signed_by_owner (spent u) (request_of 0x02 size tag additional)) _ (λ key. rw e)

  of_no_key : (tag additional : List ℕ) → u.identity.held ≡ false → may_replace (spent u) (request_of 0x02 48 tag additional) ≡ false
  unfolding may_replace
  of_no_key tag additional e = and_fails_left _ e

  unproven : (tag additional : List ℕ) → u.identity.held ≡ true → may_replace (spent u) (request_of 0x02 40 tag additional) ≡ false
  unfolding may_replace
  unproven tag additional e = ap not e

  wrongly_proven : (tag additional : List ℕ) → (drop 32 additional ≡ proof_from u.identity.bytes u.nonces.newest → ⊥)
      → may_replace (spent u) (request_of 0x02 48 tag additional) ≡ false
  unfolding may_replace
  wrongly_proven tag additional h = and_fails_right u.identity.held (proof_fails (spent u) (drop 32 additional) h)

  -- 0x03 and 0x08
  wrong_proof_lem : {id size : ℕ} (tag additional : List ℕ) → LegalLength id size → size ≡ 16
      → (additional ≡ proof_from u.identity.bytes u.nonces.newest → ⊥) → by_id (spent u) (request_of id size tag additional) reach ≡ rejects 0x80
  unfolding by_id clear_key unprotect
  wrong_proof_lem tag additional of_parameters n h = absurd (omega arith)
  wrong_proof_lem tag additional of_state n h = absurd (omega arith)
  wrong_proof_lem tag additional of_first_key n h = absurd (omega arith)
  wrong_proof_lem tag additional of_next_key n h = absurd (omega arith)
  wrong_proof_lem tag additional of_clearing n h =
      under_refused (signed_by_owner (spent u) (request_of 0x03 16 tag additional)) _ (λ key. rw (proof_fails (spent u) additional h))
  wrong_proof_lem tag additional of_recovery n h = absurd (omega arith)
  wrong_proof_lem tag additional of_ring n h = absurd (omega arith)
  wrong_proof_lem tag additional of_sound n h = absurd (omega arith)
  wrong_proof_lem tag additional of_protection n h = absurd (omega arith)
  wrong_proof_lem tag additional of_protection_flag n h = absurd (omega arith)
  wrong_proof_lem tag additional of_unprotection n h =
      rw (and_fails_right (tagged (derived_key 0x03 u.identity.bytes) u.nonces.newest (request_of 0x08 16 tag additional)) (proof_fails (spent u) additional h))

  -- Values, and consent, after the tag
  ring_refused : (size mask high low volume : ℕ) (tag : List ℕ) → IllegalRing u.settings.components mask high low volume
      → skips u.protection || tagged (derived_key 0x02 u.identity.bytes) u.nonces.newest (request_of 0x05 size tag (mask ∷ high ∷ low ∷ volume ∷ [])) ≡ true
      → by_id (spent u) (request_of 0x05 size tag (mask ∷ high ∷ low ∷ volume ∷ [])) reach ≡ rejects 0x81
  unfolding by_id ring
  ring_refused size mask high low volume tag fault t = rw (t, values_refused u.settings mask high low volume fault)

  wrong_ring_lem : {mask high low volume : ℕ} → Tagged u w 0x05 (mask ∷ high ∷ low ∷ volume ∷ [])
      → IllegalRing u.settings.components mask high low volume → judged u w reach ≡ rejects 0x81
  unfolding derived_key
  wrong_ring_lem {mask} {high} {low} {volume} (signed {size} {tag} s live held rings e) fault =
      after_tag s 0x81 live held
      (ring_refused size mask high low volume tag fault
      (or_right (skips u.protection) (tag_passes (key_from 0x02 u.identity.bytes) u.nonces.newest 0x05 size tag (mask ∷ high ∷ low ∷ volume ∷ []) e)))
  wrong_ring_lem {mask} {high} {low} {volume} (skipped {size} {tag} s live held k) fault =
      after_tag s 0x81 live held (ring_refused size mask high low volume tag fault (or_left _ (ap skips k.1)))

  wrong_flag_lem : {flag : ℕ} → Tagged u w 0x07 (flag ∷ []) → 1 < flag → judged u w reach ≡ rejects 0x81
  unfolding by_id protect derived_key
  wrong_flag_lem {flag} (signed {size} {tag} s live held protects e) high =
      after_tag s 0x81 live held
      (rw (tag_passes (key_from 0x03 u.identity.bytes) u.nonces.newest 0x07 size tag (flag ∷ []) e, lt-leb flag 1 high))
  wrong_flag_lem (skipped s live held k) high = absurd (omega (arith, k.0))

  neither : u.consent ≡ 0 → u.pairing ≡ false → ltb 0 u.consent || u.pairing ≡ false
  neither none_left off =
      let left : ltb 0 u.consent ≡ false = le-ltb 0 u.consent (omega arith) in
      cc

  no_consent_lem : Tagged u w 0x04 [] → u.consent ≡ 0 → u.pairing ≡ false → judged u w reach ≡ rejects 0x82
  unfolding by_id recover_key derived_key
  no_consent_lem (signed {size} {tag} s live held recovers e) none_left off =
      after_tag s 0x82 live held
      (rw ((owned_by_some held).1, tag_passes (key_from 0x01 u.identity.bytes) u.nonces.newest 0x04 size tag [] e, neither none_left off))
  no_consent_lem (skipped s live held k) none_left off = absurd (omega (arith, k.0))

  pub reason_refuses : {n : ℕ} → Reason u w n → judged u w reach ≡ rejects n
  unfolding judged
  reason_refuses (illegal_shape h) = rw (fails (shape_legal w) (λ e. h _ _ _ _ (legal_sent w e)))
  reason_refuses (no_live_nonce s e) = judged_as s ∙ rw e
  reason_refuses (no_identity_key {id} s h e) = judged_as s ∙ rw (le-ltb id 3 h, e) (same_either u.nonces.live (rejects 0x80))
  reason_refuses (nobodys_tag {tag = tag} {additional = additional} s low h) = unauthenticated s (nobodys tag additional s.legal low h)
  reason_refuses (no_owner {size} {tag} {additional} s e) = unauthenticated s (set_by_nobody size tag additional e)
  reason_refuses (wrong_tag {id} {size} {tag} {additional} {key} s k unskipped h) =
      unauthenticated s (wrong_tag_lem size tag additional k unskipped (tag_fails key u.nonces.newest id size tag additional h))
  reason_refuses (proof_of_no_key {tag} {additional} s e) = unauthenticated s (not_replaced 48 tag additional (of_no_key tag additional e))
  reason_refuses (key_without_proof {tag} {additional} s e) = unauthenticated s (not_replaced 40 tag additional (unproven tag additional e))
  reason_refuses (wrong_proof_of_held {tag} {additional} s h) = unauthenticated s (not_replaced 48 tag additional (wrongly_proven tag additional h))
  reason_refuses (wrong_proof {tag = tag} {proof = proof} s h) = unauthenticated s (wrong_proof_lem tag proof s.legal refl h)
  reason_refuses (wrong_ring t fault) = wrong_ring_lem t fault
  reason_refuses (wrong_flag t high) = wrong_flag_lem t high
  reason_refuses (no_consent t none_left off) = no_consent_lem t none_left off
