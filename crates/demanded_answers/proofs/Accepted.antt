-- Valid writes and reads are served, in literal numbers. Each law of a write follows the write to the judgement of its ID (Judging) and there opens
-- every check by what the unit permits: the tag is the key's own, the proof is the held key's own, the first key that makes the tag is the
-- one meant. What the definitions then give is, opened, what the literal terms say.
use Prim.Native.Nat.{ℕ, zero, suc, ◌+◌, ◌/◌, ◌%◌, ◌≤◌, ◌<◌}
use mathlib.Core.Path.{◌≡◌, refl, sym, ap, subst, ◌∙◌}
use mathlib.Core.Bool.{Bool, true, false, cond, ◌&&◌, ◌||◌}
use mathlib.Core.List.{List, [], ◌∷◌, ◌++◌}
use mathlib.Core.Logic.{◌⊎◌, inl, inr}
use mathlib.Core.Option.{some}
use native.Mathlib.Omega.{arith}
use lib.Bits.{bit_and}
use lib.Dec.{eqb, ltb}
use lib.ListN.{length, get_or, drop, length-append, length-drop}
use lib.Seq.{drop_at, take-append-le, drop-append-le}
use borrow.Author.Tests.{le-leb, lt-ltb, eq-eqb, ne_eqb}
use Rattle.std.specs.Prelude.{Some, None}
use Rattle.laws.specs.Bytes.{big_endian, same_bytes}
use Rattle.laws.proofs.Flags.{or_left, or_right, fails}
use Rattle.laws.proofs.Same.{same_refl, differ_same}
use Rattle.tables.specs.Rows.{among, first_that}
use Rattle.wire.specs.Signing.{request_tag, key_proof, derived_key, recovery_key, ring_key, protection_key, answer_tag, signed, ring_notice}
use Rattle.wire.specs.Shape.{Request, size_legal, one_of, legal_sizes}
use Rattle.key_blocks.specs.KeyBlocks.{decrypted_key, encrypted_key}
use Rattle.unit.specs.declared.TagUnit.{TagUnit}
use Rattle.unit.specs.Types.{Owner}
use Rattle.unit.specs.declared.Sound.{Sound}
use Rattle.unit.specs.declared.Protection.{Protection}
use Rattle.unit.specs.WellFormed.{well_formed, held_keys, owner_key}
use Rattle.unit.specs.Change.{spent, silenced, with_nonces, with_accounts, with_sound, with_protection}
use Rattle.unit.specs.Outcome.{giving}
use Rattle.unit.proofs.Lines.{lines, held_count, owner_held_lem}
use Rattle.authentication.specs.Judgement.{accepts, tagged, used_key, signed_by_owner}
use Rattle.account_keys.specs.Order.{key_used, after_use}
use Rattle.state_read.specs.State.{owned_by, read_state}
use Rattle.parameter_read.specs.Parameters.{read_parameters}
use Rattle.provisioning.specs.Provisioning.{awaiting, set_key, may_replace}
use Rattle.clearing.specs.Clearing.{cleared, clear_key}
use Rattle.recovery.specs.Recovery.{recover_key}
use Rattle.ring_decisions.specs.declared.Decision.{Decision}
use Rattle.ring_values.specs.RingValues.{skips, held_volume, asked_timeout}
use Rattle.ring_decisions.specs.Decisions.{ring_decision}
use Rattle.ringing.specs.Ringing.{ring, rung, read_sound}
use Rattle.protecting.specs.Protecting.{protect, unprotect}
use Rattle.handlers.specs.ById.{by_id}
use Rattle.requests.specs.Write.{needs_key}
use Rattle.nonces.specs.Nonces.{issued_nonces, nonce_fits, with_issued}
use Rattle.nonces.proofs.Lines.{issued_count}
use Rattle.read_call.specs.Read.{issuing}
use Rattle.tag.specs.Calls.{read, own, guarded, call, Act, calls, act}
use Rattle.demanded_answers.specs.History.{step, sends}
use Rattle.demanded_answers.specs.Spelled.{key_at_place, nonce_at_place, OwnedWith, NonceSpent, OnlySpends}
use Rattle.demanded_answers.specs.Accepted.{Serves, Open, sent, answer, First, owner_bit, standing, brought_first, owner_once_first, KeyUsed, OwnerKnown, Awaits, Cleared, start_notice, stop_notice, fail_notice, RingLegal, ring_bytes, RingTag, signed as signed_tag, skipped, NoneReached, Reached, Stoppable, silent, part_reached, Rings, Stopped, Protects, Issued, Accepted}
use Rattle.demanded_answers.proofs.RecordLines.{key_at, nonce_at, among_found}
use Rattle.demanded_answers.proofs.EphemeralIdentifier.{standing_is}
use Rattle.demanded_answers.proofs.Spelling.{parameters_are, timeout_is, meant, ring_legal_lem, stop_legal, owner_at, claimed_owner, claimed_count, claimed_keys, first_keys, used_owner, owner_bit_lem, sound_state_lem}
use Rattle.demanded_answers.proofs.MaskBits.{reached_is, none_reached, part_reached_lem}
use Rattle.demanded_answers.proofs.Judging.{opened, length_request_tag, length_key_proof, request_of, judged_as, own_tag}

-- an act whose outcome is known is served with what that outcome gives
pub serves : {a : Act} {u v : TagUnit} {answer : List ℕ} {Left : TagUnit → Type 0} → step a u ≡ giving answer v → Left v → Serves a u answer Left
serves e l = record { answered = rw e; left = rw e l }

-- A read of a nonce that is not one of those held
pub reads : (u : TagUnit) (room : ℕ) (nonce : List ℕ) → well_formed u ≡ true → 42 ≤ room → length nonce ≡ 8
    → among nonce (issued_nonces u.nonces) ≡ false
    → step (calls (read nonce) room) u ≡ giving (0x01 ∷ nonce) (with_nonces (with_issued nonce u.nonces) u)
unfolding act call guarded own issuing nonce_fits
reads u room nonce right fits long other =
    opened u room (issuing nonce u) right fits
    ∙ rw (eq-eqb (length nonce) 8 long, other)

not_held : (u : TagUnit) (nonce : List ℕ) → ((p : ℕ) → p < u.nonces.count → nonce_at_place u p ≡ nonce → ⊥)
    → among nonce (issued_nonces u.nonces) ≡ false
not_held u nonce other =
    fails _
    (λ h.
    let found = among_found nonce (issued_nonces u.nonces) h in
    let below : found.0 < u.nonces.count = omega (arith, found.1, issued_count u.nonces) in
    other found.0 below (sym (found.2 ∙ nonce_at u found.0 below)))

issued_so : (nonce : List ℕ) (u : TagUnit) → Issued nonce u (with_nonces (with_issued nonce u.nonces) u)
issued_so nonce u =
    record {
      is_newest = refl;
      is_live = refl;
      one_more_nonce = λ few. rw (lt-ltb u.nonces.count 16 few);
      no_more = λ full. rw full;
      others_behind = refl;
      rest = (refl, refl, tt, refl, refl, refl, refl, refl, refl, refl, refl, refl);
    }

-- The first key of a list that passes a test, where every one before it fails
pub first_found : (test : List ℕ → Bool) (keys : List (List ℕ)) (p : ℕ) → p < length keys
    → ((j : ℕ) → j < p → test (get_or keys j []) ≡ false) → test (get_or keys p []) ≡ true → first_that test keys ≡ some (get_or keys p [])
unfolding first_that
first_found test [] p short before here = absurd (omega arith)
first_found test (k ∷ ks) zero short before here = rw here
first_found test (k ∷ ks) (suc p) short before here =
    rw (before 0 (omega arith)) (first_found test ks p (omega arith) (λ j h. before (suc j) (omega arith)) here)

-- The request that a key signs with the unit's nonce
abbrev asked : TagUnit → ℕ → ℕ → List ℕ → List ℕ → Request
asked u id size key additional = request_of id size (request_tag key u.nonces.newest id size additional) additional

first_tagged : (u : TagUnit) (id p : ℕ) → First u id p → used_key (spent u) (asked u id 8 (key_at_place u p) []) ≡ some (key_at_place u p)
unfolding used_key tagged request_tag
first_tagged u id p (held, first) =
    let key = key_at_place u p in
    let q = asked u id 8 key [] in
    let made : (k : List ℕ) → List ℕ = λ k. request_tag k u.nonces.newest id 8 [] in
    first_found (λ k. tagged k u.nonces.newest q) (held_keys u.accounts) p (omega (arith, held_count u.accounts))
    (λ j h. rw (key_at u j (omega arith)) (differ_same (made (key_at_place u j)) (made key) (first j h)))
    (rw (key_at u p held) (own_tag key u.nonces.newest id 8 []))
    ∙ ap some (key_at u p held)

-- The owner's key, where it signed the request
owner_tagged : (u : TagUnit) (id size : ℕ) (key additional : List ℕ) → owner_key u.accounts ≡ some key
    → signed_by_owner (spent u) (asked u id size key additional) ≡ some key
unfolding signed_by_owner
owner_tagged u id size key additional e = rw (e, own_tag key u.nonces.newest id size additional)

-- Where the size is known, a write that a key signed comes to its judgement
signed_as : (u : TagUnit) (reach room id size : ℕ) (key additional : List ℕ) {after : TagUnit} {answer : List ℕ} {Left : TagUnit → Type 0}
    → 8 + length additional ≡ size → Open u reach room → size_legal id size ≡ true → (ltb id needs_key || u.identity.held) ≡ true
    → by_id (spent u) (asked u id size key additional) reach ≡ accepts after answer → Left after
    → Serves (sends (sent u id key additional) reach room) u answer Left
unfolding request_tag
signed_as u reach room id size key additional sized ready legal there judgement left =
    rw sized
    (serves
    (judged_as id size (asked u id size key additional).tag additional (length_request_tag key u.nonces.newest id size additional)
    sized ready legal there judgement)
    left)

-- What stays in each unit that a write leaves
spends : (u v : TagUnit) → v.nonces ≡ (spent u).nonces → NonceSpent u v
spends u v e = record { count = rw e; newest = rw e; earlier = rw e; dead = rw e }

pub only_spends : (u : TagUnit) → OnlySpends u (spent u)
only_spends u = record { nonce_spent = spends u _ refl; rest = (refl, refl, tt, refl, refl, refl, refl, refl, refl, refl, refl, refl) }

key_used_lem : (u : TagUnit) → well_formed u ≡ true → (p : ℕ) → p < u.accounts.count → KeyUsed p u (after_use (key_at_place u p) (spent u))
key_used_lem u right p held =
    record {
      nonce_spent = spends u _ refl;
      count = refl;
      keys = first_keys u (lines u right) p held u.accounts refl refl;
      owner = used_owner u (lines u right) p held;
      rest = (refl, refl, tt, tt, refl, refl, refl, refl, refl, refl, refl, refl);
    }

owner_known : (u : TagUnit) → well_formed u ≡ true → (p : ℕ) → p < u.accounts.count
    → OwnerKnown p u (after_use (key_at_place u p) (with_accounts (owned_by (key_at_place u p) u.accounts) (spent u)))
owner_known u right p held =
    record {
      nonce_spent = spends u _ refl;
      count = claimed_count u (lines u right) p held u.accounts.owner;
      keys = claimed_keys u (lines u right) p held u.accounts.owner;
      owner = claimed_owner u (lines u right) p held u.accounts.owner refl;
      rest = (refl, refl, tt, tt, refl, refl, refl, refl, refl, refl, refl, refl);
    }

-- the first 32 bytes are the two blocks, whatever follows them
awaits : (u : TagUnit) (key C : List ℕ) → well_formed u ≡ true → OwnedWith u key → Awaits key C u (awaiting (decrypted_key key C) (after_use key (spent u)))
unfolding decrypted_key
awaits u key C right (p, o, k) =
    let l = lines u right in
    let held : p < u.accounts.count = owner_held_lem l p o in
    let first : (q : ℕ) → u.accounts.owner ≡ Some q → q ≡ p = λ q e. ap place_in (sym e ∙ o) in
    record {
      nonce_spent = spends u _ refl;
      waiting_is = refl;
      count = refl;
      keys = λ q e.
          rw (first q e) (subst (λ (x : List ℕ). (key_used x u.accounts).keys ≡ brought_first u p) k (first_keys u l p held u.accounts refl refl));
      owner_first =
          subst (λ (x : List ℕ). (key_used x u.accounts).owner ≡ owner_once_first p u.accounts.owner) k (used_owner u l p held)
          ∙ ap (owner_once_first p) o
          ∙ ap (λ (b : Bool). Some (cond b 0 (cond (ltb p p) (p + 1) p))) (eq-eqb p p refl);
      rest = (refl, refl, tt, tt, refl, tt, refl, refl, refl, refl, refl, refl);
    }
  where
    place_in : Owner → ℕ
    place_in None = 0
    place_in (Some q) = q

two_blocks : (key C more : List ℕ) → length C ≡ 32 → decrypted_key key (C ++ more) ≡ decrypted_key key C
unfolding decrypted_key
two_blocks key C more n =
    let first : 16 ≤ length C = omega arith in
    let second : 16 ≤ length (drop 16 C) = simp length-drop (omega arith) in
    rw (take-append-le, drop-append-le, take-append-le)

awaits_first : (u : TagUnit) (key C more : List ℕ) → well_formed u ≡ true → OwnedWith u key → length C ≡ 32
    → Awaits key C u (awaiting (decrypted_key key (C ++ more)) (after_use key (spent u)))
awaits_first u key C more right owner n = rw (two_blocks key C more n) (awaits u key C right owner)

clears : (u : TagUnit) → Cleared u (cleared (spent u))
unfolding cleared
clears u =
    record {
      nonce_spent = spends u _ refl;
      keyless = refl;
      unset = refl;
      none_waits = refl;
      silent = (refl, refl);
      unprotected = refl;
      unconsented = refl;
      rest = (refl, refl, tt, tt, tt, tt, tt, tt, tt, tt, refl, refl);
    }

protects_as : (p : Protection) (u : TagUnit) → Protects p u (with_protection p (spent u))
protects_as p u =
    record { nonce_spent = spends u _ refl; protection_is = refl; rest = (refl, refl, tt, refl, refl, refl, refl, refl, tt, refl, refl, refl) }

stopped : (u : TagUnit) → Stopped u (silenced (spent u))
stopped u = record { nonce_spent = spends u _ refl; silent = (refl, refl); rest = (refl, refl, tt, refl, refl, refl, tt, tt, refl, refl, refl, refl) }

rings_as : (mask timeout volume : ℕ) (u : TagUnit)
    → Rings mask timeout volume u (with_sound (Sound.Ringing mask (cond (eqb u.settings.selectable 0) 0 volume) timeout) u.nonces.newest (spent u))
rings_as mask timeout volume u =
    record { nonce_spent = spends u _ refl; sound_is = refl; nonce_kept = refl; rest = (refl, refl, tt, refl, refl, refl, tt, tt, refl, refl, refl, refl) }

-- consent left or pairing on, as a test
consenting : (consent : ℕ) (pairing : Bool) → (0 < consent) ⊎ (pairing ≡ true) → (ltb 0 consent || pairing) ≡ true
consenting consent pairing (inl left) = or_left pairing (lt-ltb 0 consent left)
consenting consent pairing (inr on) = or_right (ltb 0 consent) on

-- The size of an 0x02 that proves the key held
proven_sized : (C proof : List ℕ) → length C ≡ 32 → length proof ≡ 8 → 8 + length (C ++ proof) ≡ 48
proven_sized C proof n p = omega (arith, length-append C proof)

few : {u : TagUnit} {reach room : ℕ} → Open u reach room → u.settings.components ≤ 3
few {u} ready = (lines u ready.formed).settings.components

-- A 0x05 with a tag that passes comes to its judgement
tag_eight : {u : TagUnit} {a tag : List ℕ} → RingTag u a tag → length tag ≡ 8
unfolding request_tag derived_key
tag_eight {u} {a} signed_tag = length_request_tag (ring_key u.identity.bytes) u.nonces.newest 0x05 12 a
tag_eight (skipped skip eight) = eight

tag_passes : {u : TagUnit} {a tag : List ℕ} → RingTag u a tag
    → skips u.protection || tagged (ring_key u.identity.bytes) u.nonces.newest (request_of 0x05 12 tag a) ≡ true
unfolding request_tag derived_key
tag_passes {u} {a} signed_tag = or_right (skips u.protection) (own_tag (ring_key u.identity.bytes) u.nonces.newest 0x05 12 a)
tag_passes (skipped skip eight) = rw skip

module _ (u : TagUnit) (reach room : ℕ) (a tag : List ℕ) (four : 8 + length a ≡ 12) (ready : Open u reach room) (held : u.identity.held ≡ true)
    (passes : RingTag u a tag) where
  ring_serves : {v : TagUnit} {answer : List ℕ} {Left : TagUnit → Type 0} → ring (spent u) (request_of 0x05 12 tag a) reach ≡ accepts v answer → Left v
      → Serves (sends (0x05 ∷ 12 ∷ tag ++ a) reach room) u answer Left
  unfolding by_id size_legal one_of legal_sizes
  ring_serves judgement left = serves (judged_as 0x05 12 tag a (tag_eight passes) four ready refl held judgement) left

-- to the ring decision, where its values are legal
ring_judged : (u : TagUnit) (tag : List ℕ) (reach asked mask timeout volume : ℕ) → u.settings.components ≤ 3
    → RingLegal u.settings.components asked mask timeout volume → RingTag u (ring_bytes asked timeout volume) tag
    → ring (spent u) (request_of 0x05 12 tag (ring_bytes asked timeout volume)) reach
    ≡ rung (ring_decision u.sound mask reach) (spent u) (cond (eqb u.settings.selectable 0) 0 volume) timeout
unfolding ring
ring_judged u tag reach asked mask timeout volume low legal passes =
    let m = meant u.settings asked mask ((timeout / 256) ∷ (timeout % 256) ∷ volume ∷ []) low legal.means in
    rw (tag_passes passes, ring_legal_lem u.settings asked mask timeout volume low legal, m.is, timeout_is asked timeout volume)

stop_judged : (u : TagUnit) (tag : List ℕ) (reach high low volume : ℕ) → u.settings.components ≤ 3 → volume ≤ 3
    → RingTag u (0 ∷ high ∷ low ∷ volume ∷ []) tag → (d : Decision) → ring_decision u.sound 0 reach ≡ d
    → ring (spent u) (request_of 0x05 12 tag (0 ∷ high ∷ low ∷ volume ∷ [])) reach
    ≡ rung d (spent u) (held_volume u.settings (0 ∷ high ∷ low ∷ volume ∷ [])) (asked_timeout (0 ∷ high ∷ low ∷ volume ∷ []))
unfolding ring
stop_judged u tag reach high low volume few quiet passes d is = rw (tag_passes passes, stop_legal u.settings high low volume few quiet, is)

-- The decision, by the parts that are in reach
module _ (s : Sound) (mask reach : ℕ) (some : 0 < mask) where
  start_decided : (parts : ℕ) → Reached mask reach parts → ring_decision s mask reach ≡ Decision.Started parts
  unfolding ring_decision
  start_decided parts r =
      rw (ne_eqb mask 0 (λ e. omega arith), reached_is mask reach r.parts_are, ne_eqb parts 0 (λ e. omega (arith, r.some)))

  start_failing : NoneReached mask reach → ring_decision s mask reach ≡ Decision.Failed
  unfolding ring_decision
  start_failing none = rw (ne_eqb mask 0 (λ e. omega arith), none_reached mask reach none)

stop_decided : {s : Sound} (reach : ℕ) → Stoppable reach s → ring_decision s 0 reach ≡ Decision.Stopped
unfolding ring_decision
stop_decided reach silent = refl
stop_decided reach (part_reached {mask} i m r) = rw (ne_eqb (bit_and mask reach) 0 (part_reached_lem mask reach i m r))

stop_failing : (mask volume left reach : ℕ) → NoneReached mask reach → ring_decision (Sound.Ringing mask volume left) 0 reach ≡ Decision.Failed
unfolding ring_decision
stop_failing mask volume left reach none = rw (none_reached mask reach none)

-- What each decision gives
started_gives : (u : TagUnit) (parts volume timeout : ℕ) → timeout ≤ 6000
    → rung (Decision.Started parts) (spent u) volume timeout
    ≡ accepts (with_sound (Sound.Ringing parts volume timeout) u.nonces.newest (spent u)) (start_notice u u.nonces.newest 0 parts timeout)
unfolding rung ring_notice signed answer_tag derived_key big_endian
started_gives u parts volume timeout most = let high : timeout / 256 % 256 ≡ timeout / 256 = omega arith in rw high

stopped_gives : (u : TagUnit) (volume left : ℕ) → rung Decision.Stopped (spent u) volume left ≡ accepts (silenced (spent u)) (stop_notice u u.nonces.newest 4)
unfolding rung ring_notice signed answer_tag derived_key big_endian
stopped_gives u volume left = refl

failed_gives : (u : TagUnit) (volume left : ℕ) → well_formed u ≡ true
    → rung Decision.Failed (spent u) volume left ≡ accepts (spent u) (fail_notice u u.nonces.newest)
unfolding rung signed answer_tag derived_key
failed_gives u volume left right = rw (sound_state_lem u (lines u right))

-- 0x01 and a first 0x02, for whatever is so of the unit that they leave
pub serves_state : (u : TagUnit) (reach room p : ℕ) {Left : TagUnit → Type 0} → Open u reach room → First u 0x01 p
    → Left (after_use (key_at_place u p) (with_accounts (owned_by (key_at_place u p) u.accounts) (spent u)))
    → Serves (sends (sent u 0x01 (key_at_place u p) []) reach room) u
    (answer u 0x01 (key_at_place u p) ((cond u.identity.held 0x01 0x00 + owner_bit u.accounts.owner p) ∷ standing u))
    Left
unfolding by_id size_legal one_of legal_sizes read_state signed answer_tag
serves_state u reach room p ready first left =
    let l = lines u ready.formed in
    signed_as u reach room 0x01 8 (key_at_place u p) [] refl ready refl refl
    (rw (first_tagged u 0x01 p first, owner_bit_lem u l p first.0 u.accounts.owner refl, standing_is u))
    left

pub serves_key : (u : TagUnit) (reach room : ℕ) (key C : List ℕ) {Left : TagUnit → Type 0} → Open u reach room → OwnedWith u key → u.identity.held ≡ false
    → length C ≡ 32 → Left (awaiting (decrypted_key key C) (after_use key (spent u)))
    → Serves (sends (sent u 0x02 key C) reach room) u (answer u 0x02 key []) Left
unfolding by_id size_legal one_of legal_sizes set_key may_replace signed answer_tag
serves_key u reach room key C ready owner none n left =
    signed_as u reach room 0x02 40 key C (omega arith) ready refl refl
    (rw (owner_tagged u 0x02 40 key C (owner_at u key ready.formed owner), none))
    left

pub accepted : Accepted
unfolding by_id size_legal one_of legal_sizes read_parameters set_key may_replace clear_key recover_key read_sound protect unprotect request_tag key_proof derived_key signed answer_tag big_endian encrypted_key
accepted =
    record {
      nonce_read = λ u room lent right fits long other.
          serves (reads u room lent right fits long (not_held u lent other)) (issued_so lent u);
      parameters_read = λ u reach room p ready first.
          signed_as u reach room 0x00 8 (key_at_place u p) [] refl ready refl refl
          (rw (first_tagged u 0x00 p first, parameters_are u)) (key_used_lem u ready.formed p first.0);
      state_read = λ u reach room p ready first. serves_state u reach room p ready first (owner_known u ready.formed p first.0);
      key_set = λ u reach room key C ready owner none n. serves_key u reach room key C ready owner none n (awaits u key C ready.formed owner);
      key_replaced = λ u reach room key C ready owner held n.
          let proof = key_proof u.identity.bytes u.nonces.newest in
          let sized = proven_sized C proof n (length_key_proof u.identity.bytes u.nonces.newest) in
          signed_as u reach room 0x02 48 key (C ++ proof) sized ready refl refl
          (rw (owner_tagged u 0x02 48 key (C ++ proof) (owner_at u key ready.formed owner), held, drop_at C proof 32 n, same_refl proof))
          (awaits_first u key C proof ready.formed owner n);
      key_cleared = λ u reach room key ready owner held.
          let proof = key_proof u.identity.bytes u.nonces.newest in
          let sized = ap (λ (n : ℕ). 8 + n) (length_key_proof u.identity.bytes u.nonces.newest) in
          signed_as u reach room 0x03 16 key proof sized ready refl held
          (rw (owner_tagged u 0x03 16 key proof (owner_at u key ready.formed owner), same_refl proof))
          (clears u);
      key_recovered = λ u reach room key ready owner held consent.
          let by = recovery_key u.identity.bytes in
          signed_as u reach room 0x04 8 by [] refl ready refl held
          (rw (owner_at u key ready.formed owner, own_tag by u.nonces.newest 0x04 8 [], consenting u.consent u.pairing consent))
          (only_spends u);
      rings = λ u reach room asked mask parts timeout volume tag ready held legal passes parts-reached.
          ring_serves u reach room (ring_bytes asked timeout volume) tag refl ready held passes
          (ring_judged u tag reach asked mask timeout volume (few ready) legal passes
          ∙ rw (start_decided u.sound mask reach legal.some parts parts-reached) (started_gives u parts _ timeout legal.most))
          (rings_as parts timeout volume u);
      start_fails = λ u reach room asked mask timeout volume tag ready held legal passes none.
          ring_serves u reach room (ring_bytes asked timeout volume) tag refl ready held passes
          (ring_judged u tag reach asked mask timeout volume (few ready) legal passes
          ∙ rw (start_failing u.sound mask reach legal.some none) (failed_gives u _ timeout ready.formed))
          (only_spends u);
      stops = λ u reach room high low volume tag ready held quiet passes stoppable.
          ring_serves u reach room (0 ∷ high ∷ low ∷ volume ∷ []) tag refl ready held passes
          (stop_judged u tag reach high low volume (few ready) quiet passes _ (stop_decided reach stoppable) ∙ stopped_gives u _ _) (stopped u);
      stop_fails = λ u reach room high low volume mask loudness left tag ready held quiet passes ringing none.
          ring_serves u reach room (0 ∷ high ∷ low ∷ volume ∷ []) tag refl ready held passes
          (stop_judged u tag reach high low volume (few ready) quiet passes _ (rw ringing (stop_failing mask loudness left reach none))
          ∙ failed_gives u _ _ ready.formed)
          (only_spends u);
      sound_read = λ u reach room ready held.
          let key = ring_key u.identity.bytes in
          signed_as u reach room 0x06 8 key [] refl ready refl held
          (rw (own_tag key u.nonces.newest 0x06 8 [], sound_state_lem u (lines u ready.formed))) (only_spends u);
      protects = λ u reach room ready held.
          let key = protection_key u.identity.bytes in
          signed_as u reach room 0x07 8 key [] refl ready refl held (rw (own_tag key u.nonces.newest 0x07 8 [])) (protects_as (Protection.On false) u);
      protects_flagged = λ u reach room flag ready held low.
          let key = protection_key u.identity.bytes in
          signed_as u reach room 0x07 9 key (flag ∷ []) refl ready refl held
          (rw (own_tag key u.nonces.newest 0x07 9 (flag ∷ []), le-leb flag 1 (omega arith))) (protects_as (Protection.On (eqb flag 1)) u);
      unprotects = λ u reach room ready held.
          let key = protection_key u.identity.bytes in
          let proof = key_proof u.identity.bytes u.nonces.newest in
          let sized = ap (λ (n : ℕ). 8 + n) (length_key_proof u.identity.bytes u.nonces.newest) in
          signed_as u reach room 0x08 16 key proof sized ready refl held
          (rw (own_tag key u.nonces.newest 0x08 16 proof, same_refl proof)) (protects_as Protection.Off u);
    }
