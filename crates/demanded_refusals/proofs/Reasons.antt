-- A write that is refused is refused for a reason of the list: its judgement is gone through check by check, and each check that fails is one
-- of the reasons.
use Prim.Native.Nat.{ℕ, zero, suc, ◌+◌, ◌≤◌, ◌<◌}
use mathlib.Core.Path.{◌≡◌, refl, sym, ap, ◌∙◌}
use mathlib.Core.Bool.{Bool, true, false, cond, not, ◌&&◌, ◌||◌, true≢false, false≢true}
use mathlib.Core.List.{List, [], ◌∷◌}
use mathlib.Core.Logic.{◌⊎◌, inl, inr}
use mathlib.Core.Option.{Option, some, none}
use native.Mathlib.Omega.{arith}
use lib.Dec.{ltb, leb}
use lib.ListN.{length, get_or, drop}
use borrow.Author.Tests.{ltb-false, leb-false, not-false}
use Rattle.std.specs.Prelude.{Some, None}
use Rattle.laws.proofs.Flags.{true_or_false, or_cases, or_fails_left, or_fails_right, clash}
use Rattle.laws.proofs.Same.{same_equal, same_differ}
use Rattle.tables.specs.Rows.{first_that}
use Rattle.wire.specs.Shape.{Request, parsed, shape_legal}
use Rattle.wire.specs.Signing.{derived_key, key_proof, request_tag}
use Rattle.unit.specs.declared.TagUnit.{TagUnit}
use Rattle.unit.specs.Types.{Owner}
use Rattle.unit.specs.declared.Protection.{Protection}
use Rattle.unit.specs.WellFormed.{held_keys, row_of, owner_key}
use Rattle.unit.specs.Change.{spent}
use Rattle.unit.proofs.Lines.{held_count}
use Rattle.authentication.specs.Judgement.{Judgement, accepts, rejects, under, only_if, tagged, proves, used_key, signed_by_owner}
use Rattle.parameter_read.specs.Parameters.{read_parameters}
use Rattle.state_read.specs.State.{read_state}
use Rattle.provisioning.specs.Provisioning.{may_replace, set_key}
use Rattle.clearing.specs.Clearing.{clear_key}
use Rattle.recovery.specs.Recovery.{recover_key}
use Rattle.ring_decisions.specs.declared.Decision.{Decision}
use Rattle.ring_values.specs.RingValues.{skips, ring_legal}
use Rattle.ringing.specs.Ringing.{rung, ring, read_sound}
use Rattle.protecting.specs.Protecting.{protect, unprotect}
use Rattle.handlers.specs.ById.{by_id}
use Rattle.requests.specs.Write.{key_there, judged}
use Rattle.demanded_answers.specs.Spelled.{key_from, proof_from, tag_from, key_at_place, OwnedWith}
use Rattle.demanded_answers.specs.RecordLines.{RecordLines}
use Rattle.demanded_refusals.specs.Refused.{LegalLength, of_parameters, of_state, of_first_key, of_next_key, of_clearing, of_recovery, of_ring, of_sound, of_protection, of_protection_flag, of_unprotection, Sent, Signer, sets_key, clears, recovers, rings, reads_sound, protects, unprotects, Skipped, Tagged, signed, skipped, IllegalRing, Reason, illegal_shape, no_live_nonce, no_identity_key, nobodys_tag, no_owner, wrong_tag, proof_of_no_key, key_without_proof, wrong_proof_of_held, wrong_proof, wrong_ring, wrong_flag, no_consent}
use Rattle.demanded_refusals.proofs.Choices.{tested}
use Rattle.demanded_answers.proofs.Judging.{request_of}
use Rattle.demanded_answers.proofs.RecordLines.{key_at}
use Rattle.demanded_refusals.proofs.RingValues.{values_judged}
use Rattle.demanded_refusals.proofs.Sent.{legal_sent, illegal}

-- The tests of tags and proofs, as equations
module _ (key nonce : List ℕ) (id size : ℕ) (tag additional : List ℕ) where
  pub tag_right : tagged key nonce (request_of id size tag additional) ≡ true → tag ≡ tag_from key nonce id size additional
  unfolding tagged request_tag
  tag_right h = sym (same_equal (tag_from key nonce id size additional) tag h)

  pub tag_wrong : tagged key nonce (request_of id size tag additional) ≡ false → tag ≡ tag_from key nonce id size additional → ⊥
  unfolding tagged request_tag
  tag_wrong h e = same_differ (tag_from key nonce id size additional) tag h (sym e)

pub proof_wrong : (u : TagUnit) (proof : List ℕ) → proves u proof ≡ false → proof ≡ proof_from u.identity.bytes u.nonces.newest → ⊥
unfolding key_proof
proof_wrong u proof h e = same_differ (proof_from u.identity.bytes u.nonces.newest) proof h (sym e)

-- Two tests of which one fails
pub one_fails : (a b : Bool) → a && b ≡ false → (a ≡ false) ⊎ ((a ≡ true) × (b ≡ false))
one_fails true b h = inr (refl, h)
one_fails false b h = inl refl

-- Where no row passes a test, each fails it
none_passes : (test : List ℕ → Bool) (l : List (List ℕ)) → first_that test l ≡ none → (i : ℕ) → i < length l → test (get_or l i []) ≡ false
unfolding first_that
none_passes test [] e i h = absurd (omega arith)
none_passes test (k ∷ ks) e i h = go i h (true_or_false (test k)) (none_passes test ks)
  where
    go : (i : ℕ) → i < length (k ∷ ks) → (test k ≡ true) ⊎ (test k ≡ false) → (first_that test ks ≡ none → (j : ℕ) → j < length ks → test (get_or ks j []) ≡ false)
        → test (get_or (k ∷ ks) i []) ≡ false
    go i h (inl t) later = let found : some k ≡ none = rw t at e in cc
    go zero h (inr t) later = t
    go (suc i) h (inr t) later = later (rw t at e) i (omega arith)

not_chosen : (b : Bool) (k : List ℕ) → cond b (some k) none ≡ none → b ≡ false
not_chosen true k e = cc
not_chosen false k e = refl

-- The data by its count
no_data : (a : List ℕ) → 8 ≡ 8 + length a → a ≡ []
no_data [] e = refl
no_data (x ∷ xs) e = absurd (omega arith)

one_byte : (a : List ℕ) → 9 ≡ 8 + length a → (x : ℕ) × (a ≡ x ∷ [])
one_byte [] e = absurd (omega arith)
one_byte (x ∷ []) e = (x, refl)
one_byte (x ∷ y ∷ l) e = absurd (omega arith)

pub four_bytes : (a : List ℕ) → 12 ≡ 8 + length a → (x y z v : ℕ) × (a ≡ x ∷ y ∷ z ∷ v ∷ [])
four_bytes [] e = absurd (omega arith)
four_bytes (x ∷ []) e = absurd (omega arith)
four_bytes (x ∷ y ∷ []) e = absurd (omega arith)
four_bytes (x ∷ y ∷ z ∷ []) e = absurd (omega arith)
four_bytes (x ∷ y ∷ z ∷ v ∷ []) e = (x, y, z, v, refl)
four_bytes (x ∷ y ∷ z ∷ v ∷ t ∷ l) e = absurd (omega arith)

module _ (u : TagUnit) (w : List ℕ) (reach : ℕ) (l : RecordLines u) where
  -- A judgement that accepts, or rejects for a reason
  data Found : Judgement → Type 0 where
    accepted : {v : TagUnit} {answer : List ℕ} → Found (accepts v answer)
    rejected : {n : ℕ} → Reason u w n → Found (rejects n)

  with_key : (o : Option (List ℕ)) (g : List ℕ → Judgement) → (o ≡ none → Reason u w 0x80) → ((key : List ℕ) → o ≡ some key → Found (g key))
      → Found (under o g)
  with_key (some key) g absent h = h key refl
  with_key none g absent h = rejected (absent refl)

  checked : (ok : Bool) {n : ℕ} {next : Judgement} → (ok ≡ true → Found next) → (ok ≡ false → Reason u w n) → Found (cond ok next (rejects n))
  checked ok next fault = tested Found ok next (λ e. rejected (fault e))

  rung_found : (d : Decision) (v : TagUnit) (volume left : ℕ) → Found (rung d v volume left)
  unfolding rung
  rung_found (Decision.Started mask) v volume left = accepted
  rung_found Decision.Stopped v volume left = accepted
  rung_found Decision.Failed v volume left = accepted

  -- Where the owner did not sign
  data Unsigned (q : Request) : Type 0 where
    nobody : u.accounts.owner ≡ None → Unsigned q
    other_tag : (key : List ℕ) → OwnedWith u key → tagged key u.nonces.newest q ≡ false → Unsigned q

  unsigned : (q : Request) → signed_by_owner (spent u) q ≡ none → Unsigned q
  unfolding signed_by_owner owner_key
  unsigned q e = go u.accounts.owner refl e
    where
      go : (o : Owner) → u.accounts.owner ≡ o
          → only_if (λ k. tagged k u.nonces.newest q) (row_of o (held_keys u.accounts)) ≡ none → Unsigned q
      go None h n = nobody h
      go (Some p) h n =
          other_tag (get_or (held_keys u.accounts) p []) (p, h, sym (key_at u p (l.owner_held p h))) (not_chosen _ _ n)

  module _ (tag additional : List ℕ) (live : u.nonces.live ≡ true) where
    -- 0x00 and 0x01
    unmatched : (id : ℕ) → id ≤ 0x01 → Sent w id 8 tag additional → used_key (spent u) (request_of id 8 tag additional) ≡ none → Reason u w 0x80
    unfolding used_key
    unmatched id low s e =
        nobodys_tag s low
        (λ p h.
        let fails-at = none_passes (λ k. tagged k u.nonces.newest (request_of id 8 tag additional)) (held_keys u.accounts) e p (omega (arith, held_count u.accounts)) in
        tag_wrong (key_at_place u p) u.nonces.newest id 8 tag additional (rw (key_at u p h) at fails-at))

    -- 0x02
    not_set : (size : ℕ) → Sent w 0x02 size tag additional → signed_by_owner (spent u) (request_of 0x02 size tag additional) ≡ none → Reason u w 0x80
    not_set size s e = go (unsigned (request_of 0x02 size tag additional) e)
      where
        go : Unsigned (request_of 0x02 size tag additional) → Reason u w 0x80
        go (nobody h) = no_owner s h
        go (other_tag key o t) = wrong_tag s (sets_key o) (λ k. absurd (omega (arith, k.0))) (tag_wrong key u.nonces.newest 0x02 size tag additional t)

    set_first : Sent w 0x02 40 tag additional → Found (set_key (spent u) (request_of 0x02 40 tag additional))
    unfolding set_key may_replace
    set_first s =
        with_key (signed_by_owner (spent u) (request_of 0x02 40 tag additional)) _ (not_set 40 s)
        (λ key o. checked (not u.identity.held) (λ e. accepted) (λ e. key_without_proof s (not-false _ e)))

    set_next : Sent w 0x02 48 tag additional → Found (set_key (spent u) (request_of 0x02 48 tag additional))
    unfolding set_key may_replace
    set_next s =
        with_key (signed_by_owner (spent u) (request_of 0x02 48 tag additional)) _ (not_set 48 s)
        (λ key o. checked (u.identity.held && proves (spent u) (drop 32 additional)) (λ e. accepted) (λ e. go (one_fails _ _ e)))
      where
        go : (u.identity.held ≡ false) ⊎ ((u.identity.held ≡ true) × (proves (spent u) (drop 32 additional) ≡ false)) → Reason u w 0x80
        go (inl e) = proof_of_no_key s e
        go (inr e) = wrong_proof_of_held s (proof_wrong (spent u) (drop 32 additional) e.1)

    -- 0x03 to 0x08
    module _ (held : u.identity.held ≡ true) where
      not_cleared : Sent w 0x03 16 tag additional → signed_by_owner (spent u) (request_of 0x03 16 tag additional) ≡ none → Reason u w 0x80
      not_cleared s e = go (unsigned (request_of 0x03 16 tag additional) e)
        where
          go : Unsigned (request_of 0x03 16 tag additional) → Reason u w 0x80
          go (nobody h) = absurd (l.key_owned held h)
          go (other_tag key o t) = wrong_tag s (clears o) (λ k. absurd (omega (arith, k.0))) (tag_wrong key u.nonces.newest 0x03 16 tag additional t)

      clear : Sent w 0x03 16 tag additional → Found (clear_key (spent u) (request_of 0x03 16 tag additional))
      unfolding clear_key
      clear s =
          with_key (signed_by_owner (spent u) (request_of 0x03 16 tag additional)) _ (not_cleared s)
          (λ key o. checked (proves (spent u) additional) (λ e. accepted) (λ e. wrong_proof s (proof_wrong (spent u) additional e)))

      owner_there : owner_key u.accounts ≡ none → ⊥
      unfolding owner_key
      owner_there e = go u.accounts.owner refl e
        where
          go : (o : Owner) → u.accounts.owner ≡ o → row_of o (held_keys u.accounts) ≡ none → ⊥
          go None h n = l.key_owned held h
          go (Some p) h n = let z : ◌≡◌ {A = ℕ} 0 1 = cc in omega arith

      -- a request that a derived key did not sign
      not_signed : (id size n : ℕ) → Sent w id size tag additional → Signer u id (key_from n u.identity.bytes) → (Skipped u id → ⊥)
          → tagged (derived_key n u.identity.bytes) u.nonces.newest (request_of id size tag additional) ≡ false → Reason u w 0x80
      unfolding derived_key
      not_signed id size n s key unskipped e =
          wrong_tag s key unskipped (tag_wrong (key_from n u.identity.bytes) u.nonces.newest id size tag additional e)

      is_signed : (id size n : ℕ) → Sent w id size tag additional → Signer u id (key_from n u.identity.bytes)
          → tagged (derived_key n u.identity.bytes) u.nonces.newest (request_of id size tag additional) ≡ true → Tagged u w id additional
      unfolding derived_key
      is_signed id size n s key e =
          signed s live held key (tag_right (key_from n u.identity.bytes) u.nonces.newest id size tag additional e)

      recover : Sent w 0x04 8 tag additional → Found (recover_key (spent u) (request_of 0x04 8 tag additional))
      unfolding recover_key
      recover s =
          with_key (owner_key u.accounts) _ (λ e. absurd (owner_there e))
          (λ key o.
          checked (tagged (derived_key 0x01 u.identity.bytes) u.nonces.newest (request_of 0x04 8 tag additional))
          (λ t.
          checked (ltb 0 u.consent || u.pairing) (λ e. accepted)
          (λ e.
          let none_left : u.consent ≤ 0 = ltb-false 0 u.consent (or_fails_left _ _ e) in
          no_consent (rw (no_data additional s.counted) at (is_signed 0x04 8 0x01 s recovers t)) (omega arith) (or_fails_right (ltb 0 u.consent) _ e)))
          (not_signed 0x04 8 0x01 s recovers (λ k. absurd (omega (arith, k.0)))))

      skipping : (p : Protection) → skips p ≡ true → p ≡ Protection.On true
      skipping Protection.Off e = absurd (false≢true e)
      skipping (Protection.On skip) e = rw e

      passed : Sent w 0x05 12 tag additional
          → (skips u.protection ≡ true) ⊎ (tagged (derived_key 0x02 u.identity.bytes) u.nonces.newest (request_of 0x05 12 tag additional) ≡ true)
          → Tagged u w 0x05 additional
      passed s (inl e) = skipped s live held (refl, skipping u.protection e)
      passed s (inr e) = is_signed 0x05 12 0x02 s rings e

      not_legal : Tagged u w 0x05 additional → 12 ≡ 8 + length additional → ring_legal u.settings additional ≡ false → Reason u w 0x81
      not_legal t n e = let b = four_bytes additional n in go b.0 b.1 b.2 b.3 b.4 (values_judged u.settings b.0 b.1 b.2 b.3)
        where
          go : (mask high low volume : ℕ) → additional ≡ mask ∷ high ∷ low ∷ volume ∷ []
              → IllegalRing u.settings.components mask high low volume ⊎ (ring_legal u.settings (mask ∷ high ∷ low ∷ volume ∷ []) ≡ true)
              → Reason u w 0x81
          go mask high low volume is (inl fault) = wrong_ring (rw is at t) fault
          go mask high low volume is (inr h) = absurd (clash h (rw is at e))

      ring_found : Sent w 0x05 12 tag additional → Found (ring (spent u) (request_of 0x05 12 tag additional) reach)
      unfolding ring
      ring_found s =
          checked (skips u.protection || tagged (derived_key 0x02 u.identity.bytes) u.nonces.newest (request_of 0x05 12 tag additional))
          (λ t.
          checked (ring_legal u.settings additional) (λ e. rung_found _ (spent u) _ _)
          (not_legal (passed s (or_cases _ _ t)) s.counted))
          (λ e.
          not_signed 0x05 12 0x02 s rings (λ k. true≢false (sym (ap skips k.1) ∙ or_fails_left _ _ e)) (or_fails_right (skips u.protection) _ e))

      read_sound_lem : Sent w 0x06 8 tag additional → Found (read_sound (spent u) (request_of 0x06 8 tag additional))
      unfolding read_sound
      read_sound_lem s =
          checked (tagged (derived_key 0x02 u.identity.bytes) u.nonces.newest (request_of 0x06 8 tag additional)) (λ e. accepted)
          (not_signed 0x06 8 0x02 s reads_sound (λ k. absurd (omega (arith, k.0))))

      protect_found : (size : ℕ) → Sent w 0x07 size tag additional → (leb (get_or additional 0 0) 1 ≡ false → Tagged u w 0x07 additional → Reason u w 0x81)
          → Found (protect (spent u) (request_of 0x07 size tag additional))
      unfolding protect
      protect_found size s fault =
          checked (tagged (derived_key 0x03 u.identity.bytes) u.nonces.newest (request_of 0x07 size tag additional))
          (λ t. checked (leb (get_or additional 0 0) 1) (λ e. accepted) (λ e. fault e (is_signed 0x07 size 0x03 s protects t)))
          (not_signed 0x07 size 0x03 s protects (λ k. absurd (omega (arith, k.0))))

      flag_wrong : 9 ≡ 8 + length additional → leb (get_or additional 0 0) 1 ≡ false → Tagged u w 0x07 additional → Reason u w 0x81
      flag_wrong n e t =
          let b = one_byte additional n in
          wrong_flag (rw b.1 at t) (leb-false b.0 1 (rw b.1 at e))

      flag_right : 8 ≡ 8 + length additional → leb (get_or additional 0 0) 1 ≡ false → Tagged u w 0x07 additional → Reason u w 0x81
      flag_right n e t = absurd (true≢false (rw (no_data additional n) at e))

      unprotect_found : Sent w 0x08 16 tag additional → Found (unprotect (spent u) (request_of 0x08 16 tag additional))
      unfolding unprotect
      unprotect_found s =
          checked (tagged (derived_key 0x03 u.identity.bytes) u.nonces.newest (request_of 0x08 16 tag additional) && proves (spent u) additional)
          (λ e. accepted) (λ e. go (one_fails _ _ e))
        where
          go : (tagged (derived_key 0x03 u.identity.bytes) u.nonces.newest (request_of 0x08 16 tag additional) ≡ false)
              ⊎ ((tagged (derived_key 0x03 u.identity.bytes) u.nonces.newest (request_of 0x08 16 tag additional) ≡ true) × (proves (spent u) additional ≡ false))
              → Reason u w 0x80
          go (inl e) = not_signed 0x08 16 0x03 s unprotects (λ k. absurd (omega (arith, k.0))) e
          go (inr e) = wrong_proof s (proof_wrong (spent u) additional e.1)

    by_id_lem : {id size : ℕ} → LegalLength id size → Sent w id size tag additional → (ltb id 3 || u.identity.held) ≡ true
        → Found (by_id (spent u) (request_of id size tag additional) reach)
    unfolding by_id read_parameters read_state
    by_id_lem of_parameters s there = with_key (used_key (spent u) (request_of 0x00 8 tag additional)) _ (unmatched 0x00 (omega arith) s) (λ key e. accepted)
    by_id_lem of_state s there = with_key (used_key (spent u) (request_of 0x01 8 tag additional)) _ (unmatched 0x01 (omega arith) s) (λ key e. accepted)
    by_id_lem of_first_key s there = set_first s
    by_id_lem of_next_key s there = set_next s
    by_id_lem of_clearing s there = clear there s
    by_id_lem of_recovery s there = recover there s
    by_id_lem of_ring s there = ring_found there s
    by_id_lem of_sound s there = read_sound_lem there s
    by_id_lem of_protection s there = protect_found there 8 s (flag_right there s.counted)
    by_id_lem of_protection_flag s there = protect_found there 9 s (flag_wrong there s.counted)
    by_id_lem of_unprotection s there = unprotect_found there s

  judged_found : Found (judged u w reach)
  unfolding judged
  judged_found =
      checked (shape_legal w)
      (λ h.
      let s = legal_sent w h in
      checked u.nonces.live
      (λ live.
      checked (key_there u (parsed w)) (by_id_lem (parsed w).tag (parsed w).additional live s.legal s)
      (λ e. no_identity_key s (ltb-false (parsed w).id 3 (or_fails_left _ _ e)) (or_fails_right (ltb (parsed w).id 3) _ e)))
      (no_live_nonce s))
      (λ e. illegal_shape (illegal w e))

  pub reason_found : (n : ℕ) → judged u w reach ≡ rejects n → Reason u w n
  reason_found n e = go (judged u w reach) judged_found e
    where
      go : (j : Judgement) → Found j → j ≡ rejects n → Reason u w n
      go j accepted h = let z : ◌≡◌ {A = ℕ} 0 1 = cc in absurd (omega arith)
      go j (rejected {n = m} r) h = let same : m ≡ n = cc in rw same at r
