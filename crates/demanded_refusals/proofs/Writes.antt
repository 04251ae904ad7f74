-- A write keeps a unit well formed: each request that is accepted makes only changes whose conditions its tests have shown. The requests are
-- judged on a unit that is well formed; 0x05 and 0x07 need its identity key.
use Prim.Native.Nat.{ℕ, ◌≤◌, ◌<◌}
use mathlib.Core.Path.{◌≡◌, refl, ◌∙◌}
use mathlib.Core.Bool.{Bool, true, false, cond, not, ◌||◌}
use mathlib.Core.List.{List}
use mathlib.Core.Option.{Option, some, none}
use native.Mathlib.Omega.{arith}
use lib.Bits.{bit_and, and_le_l}
use lib.Dec.{eqb, leb}
use borrow.Author.Tests.{eqb-true, eqb-false, leb-true, le-ltb}
use Rattle.std.specs.Prelude.{Some, None}
use Rattle.laws.proofs.Flags.{and_left, and_right, or_rest}
use Rattle.wire.specs.Signing.{ring_key}
use Rattle.wire.specs.Shape.{Request, parsed, shape_legal}
use Rattle.key_blocks.specs.KeyBlocks.{decrypted_key}
use Rattle.unit.specs.declared.TagUnit.{TagUnit}
use Rattle.unit.specs.declared.Settings.{Settings}
use Rattle.unit.specs.Types.{Owner}
use Rattle.unit.specs.declared.Sound.{Sound}
use Rattle.unit.specs.declared.Protection.{Protection}
use Rattle.sizes.specs.Sizes.{highest_volume}
use Rattle.tables.specs.Rows.{place_of}
use Rattle.unit.specs.Ringable.{inside}
use Rattle.unit.specs.WellFormed.{well_formed, held_keys, row_of, owner_key, owned}
use Rattle.unit.specs.Change.{spent, with_accounts}
use Rattle.unit.specs.Outcome.{Outcome}
use Rattle.unit.proofs.Masks.{inside_below, below_inside}
use Rattle.unit.proofs.Lines.{RingLines, VolumeLines, lines, held_count, settings_legal_lem}
use Rattle.unit.proofs.Kept.{fresh_formed, clock_kept, battery_kept, pairing_kept, nonces_kept, spent_kept, owner_kept, waiting_kept, silenced_kept, ring_kept, protection_kept}
use Rattle.authentication.specs.Judgement.{Judgement, accepts, rejects, last_nonce, tagged, used_key, only_if, signed_by_owner, under, concluded}
use Rattle.parameter_read.specs.Parameters.{read_parameters}
use Rattle.state_read.specs.State.{read_state, claimed, owned_by}
use Rattle.account_keys.specs.Order.{after_use}
use Rattle.provisioning.specs.Provisioning.{set_key, may_replace, awaiting}
use Rattle.clearing.specs.Clearing.{clear_key, cleared}
use Rattle.recovery.specs.Recovery.{recover_key}
use Rattle.ring_decisions.specs.declared.Decision.{Decision}
use Rattle.ring_values.specs.RingValues.{skips, ring_legal, ring_mask, all_of_none, asked_volume, asked_timeout, held_volume}
use Rattle.ring_decisions.specs.Decisions.{reached, out_of_reach, stop_decision, ring_decision}
use Rattle.ringing.specs.Ringing.{ring, rung, read_sound}
use Rattle.protecting.specs.Protecting.{protect, unprotect}
use Rattle.handlers.specs.ById.{by_id}
use Rattle.requests.specs.Write.{key_there, judged, written}
use Rattle.account_keys.proofs.Order.{followed_owned}
use Rattle.demanded_refusals.proofs.KeyUses.{used_among, owner_held_key, claimed_held, after_use_lem}
use Rattle.demanded_refusals.proofs.HeldKeys.{first_among, place_below}
use Rattle.demanded_refusals.proofs.Choices.{tested}

-- A judgement whose unit, if it accepts, is well formed
data Forms : Judgement → Type 0 where
  accepted : {v : TagUnit} {answer : List ℕ} → well_formed v ≡ true → Forms (accepts v answer)
  rejected : {n : ℕ} → Forms (rejects n)

key_forms : (o : Option (List ℕ)) {j : List ℕ → Judgement} → ((key : List ℕ) → o ≡ some key → Forms (j key)) → Forms (under o j)
key_forms (some key) h = h key refl
key_forms none h = rejected

-- A key that is used is held; where the owner's key is used there is an owner
used_held : (u : TagUnit) (q : Request) (key : List ℕ) → used_key u q ≡ some key → place_of key (held_keys u.accounts) < u.accounts.count
unfolding used_key
used_held u q key e =
    let l = held_keys u.accounts in
    omega (arith, place_below key l (first_among _ l key e), held_count u.accounts)

owner_is_lem : (o : Owner) (l : List (List ℕ)) (key : List ℕ) → row_of o l ≡ some key → owned o ≡ true
owner_is_lem None l key e = cc
owner_is_lem (Some q) l key e = refl

only_some : (p : List ℕ → Bool) (o : Option (List ℕ)) (key : List ℕ) → only_if p o ≡ some key → o ≡ some key
only_some p none key e = e
only_some p (some k) key e = go (p k) e
  where
    go : (b : Bool) → cond b (some k) none ≡ some key → some k ≡ some key
    go true h = h
    go false h = cc

pub owner_signed : (u : TagUnit) (q : Request) (key : List ℕ) → signed_by_owner u q ≡ some key → owner_key u.accounts ≡ some key
unfolding signed_by_owner
owner_signed u q key e = only_some _ (owner_key u.accounts) key e

-- Parts of a mask that is inside are inside
part_inside : (mask reach components : ℕ) → inside mask components ≡ true → inside (reached mask reach) components ≡ true
part_inside mask reach components h =
    below_inside (bit_and mask reach) components (omega (arith, and_le_l mask reach, inside_below mask components h))

-- A ring that is legal, of the parts that are in reach, has a ring's lines
held_volume_lem : (s : Settings) (a : List ℕ) → leb (asked_volume a) highest_volume ≡ true → VolumeLines s.selectable (held_volume s a)
held_volume_lem s a h = go (eqb s.selectable 0) refl
  where
    go : (b : Bool) → eqb s.selectable 0 ≡ b → VolumeLines s.selectable (cond b 0 (asked_volume a))
    go true e = record { most = omega arith; fixed = λ z. refl }
    go false e = record { most = leb-true (asked_volume a) highest_volume h; fixed = λ z. absurd (eqb-false s.selectable 0 e z) }

ring_lines : (s : Settings) (a : List ℕ) (reach : ℕ) (keyed : Bool) → keyed ≡ true → ring_legal s a ≡ true → eqb (ring_mask s a) 0 ≡ false
    → out_of_reach (ring_mask s a) reach ≡ false → RingLines (reached (ring_mask s a) reach) (held_volume s a) (asked_timeout a) s keyed
unfolding ring_legal
ring_lines s a reach keyed k h z part =
    let from-whole = and_right (inside (ring_mask s a) s.components) _ h in
    let from-volume = and_right (not (all_of_none s a)) _ from-whole in
    let times = or_rest _ z (and_right (leb (asked_volume a) highest_volume) _ from-volume) in
    record {
      identity_held = k;
      some = eqb-false (reached (ring_mask s a) reach) 0 part;
      within = part_inside (ring_mask s a) reach s.components (and_left _ _ h);
      at_volume = held_volume_lem s a (and_left _ _ from-volume);
      least = leb-true _ _ (and_left _ _ times);
      most = leb-true _ _ (and_right (leb 1 (asked_timeout a)) _ times);
    }

-- Each request
ruleset forms = (key_forms, accepted, rejected)

module _ (u : TagUnit) (w : well_formed u ≡ true) (q : Request) where
  owned_formed : (o : Owner) (key : List ℕ) → u.accounts.owner ≡ o → place_of key (held_keys u.accounts) < u.accounts.count
      → well_formed (with_accounts (claimed o key u.accounts) u) ≡ true
  owned_formed None key e h = owner_kept u w (place_of key (held_keys u.accounts)) h
  owned_formed (Some held) key e h = w

  parameters_forms : Forms (read_parameters u q)
  unfolding read_parameters
  parameters_forms = key_forms (used_key u q) (λ key found. accepted (after_use_lem u w key (used_among u q key found)))

  state_forms : Forms (read_state u q)
  unfolding read_state
  state_forms =
      key_forms (used_key u q)
      (λ key found.
      let owned = owned_formed u.accounts.owner key refl (used_held u q key found) in
      accepted (after_use_lem (with_accounts (owned_by key u.accounts) u) owned key (rw (claimed_held u.accounts.owner key u.accounts) (used_among u q key found))))

  awaiting_formed : (identity key : List ℕ) → owner_key u.accounts ≡ some key → owned u.accounts.owner ≡ true
      → well_formed (awaiting identity (after_use key u)) ≡ true
  awaiting_formed identity key k o =
      waiting_kept (after_use key u) (after_use_lem u w key (owner_held_key u w key k)) identity
      (followed_owned (place_of key (held_keys u.accounts)) u.accounts.owner ∙ o)

  set_forms : Forms (set_key u q)
  unfolding set_key owner_key
  set_forms =
      key_forms (signed_by_owner u q)
      (λ key found.
      let k = owner_signed u q key found in
      let o = owner_is_lem u.accounts.owner (held_keys u.accounts) key k in
      tested Forms (may_replace u q) (λ may. accepted (awaiting_formed (decrypted_key key q.additional) key k o)) (λ not. rejected))

  cleared_formed : well_formed (cleared u) ≡ true
  unfolding cleared
  cleared_formed =
      let l = lines u w in
      let start = fresh_formed u.settings (settings_legal_lem u.settings l.settings) in
      clock_kept _ (nonces_kept _ (battery_kept _ (pairing_kept _ start u.pairing) u.battery l.battery) u.nonces l.nonces)
      u.clock l.tenth

  clear_forms : Forms (clear_key u q)
  unfolding clear_key
  clear_forms = search (forms, tested Forms, cleared_formed)

  recover_forms : Forms (recover_key u q)
  unfolding recover_key
  recover_forms = search (forms, tested Forms, w) depth 8

  sound_forms : Forms (read_sound u q)
  unfolding read_sound
  sound_forms = search (forms, tested Forms, w)

  unprotect_forms : Forms (unprotect u q)
  unfolding unprotect
  unprotect_forms = search (forms, tested Forms, protection_kept u w Protection.Off refl)

  module _ (held : u.identity.held ≡ true) where
    protect_forms : Forms (protect u q)
    unfolding protect
    protect_forms = search (forms, tested Forms, protection_kept u w, held) depth 8

    stop_forms : (s : Sound) (reach volume left : ℕ) → Forms (rung (stop_decision s reach) u volume left)
    unfolding rung
    stop_forms Sound.Silent reach volume left = accepted (silenced_kept u w)
    stop_forms (Sound.Ringing mask loudness rest) reach volume left =
        tested (λ (d : Decision). Forms (rung d u volume left)) (out_of_reach mask reach) (λ none. accepted w) (λ some. accepted (silenced_kept u w))

    ring_forms : (reach : ℕ) → Forms (ring u q reach)
    unfolding ring ring_decision rung
    ring_forms reach =
        let mask = ring_mask u.settings q.additional in
        let P : Decision → Type 0 = λ d. Forms (rung d u (held_volume u.settings q.additional) (asked_timeout q.additional)) in
        tested Forms (skips u.protection || tagged (ring_key u.identity.bytes) (last_nonce u) q)
        (λ passed.
        tested Forms (ring_legal u.settings q.additional)
        (λ legal.
        tested P (eqb mask 0)
        (λ stop. stop_forms u.sound reach _ _)
        (λ more.
        tested P (out_of_reach mask reach) (λ none. accepted w)
        (λ some.
        accepted
        (ring_kept u w _ _ _ (last_nonce u) (ring_lines u.settings q.additional reach u.identity.held held legal more some)))))
        (λ wrong. rejected))
        (λ wrong. rejected)

-- The tests of the ID say which request it is; from 0x03 on, `key_there` is the identity key
key_there_lem : (u : TagUnit) (q : Request) (id : ℕ) → key_there u q ≡ true → 3 ≤ id → eqb q.id id ≡ true → u.identity.held ≡ true
key_there_lem u q id k h e = let same = eqb-true q.id id e in or_rest _ (le-ltb q.id 3 (omega arith)) k

by_id_forms : (u : TagUnit) → well_formed u ≡ true → (q : Request) (reach : ℕ) → key_there u q ≡ true → Forms (by_id u q reach)
unfolding by_id
by_id_forms u w q reach k =
    tested Forms (eqb q.id 0x00) (λ e. parameters_forms u w q)
    (λ n.
    tested Forms (eqb q.id 0x01) (λ e. state_forms u w q)
    (λ n.
    tested Forms (eqb q.id 0x02) (λ e. set_forms u w q)
    (λ n.
    tested Forms (eqb q.id 0x03) (λ e. clear_forms u w q)
    (λ n.
    tested Forms (eqb q.id 0x04) (λ e. recover_forms u w q)
    (λ n.
    tested Forms (eqb q.id 0x05) (λ e. ring_forms u w q (key_there_lem u q 0x05 k (omega arith) e) reach)
    (λ n.
    tested Forms (eqb q.id 0x06) (λ e. sound_forms u w q)
    (λ n.
    tested Forms (eqb q.id 0x07) (λ e. protect_forms u w q (key_there_lem u q 0x07 k (omega arith) e))
    (λ n. tested Forms (eqb q.id 0x08) (λ e. unprotect_forms u w q) (λ n. rejected)))))))))

concluded_formed : (u : TagUnit) → well_formed u ≡ true → (j : Judgement) → Forms j → well_formed (concluded u j).unit ≡ true
concluded_formed u w j (accepted h) = h
concluded_formed u w j rejected = w

pub written_kept : (u : TagUnit) → well_formed u ≡ true → (b : List ℕ) (reach : ℕ) → well_formed (written u b reach).unit ≡ true
unfolding written judged
written_kept u w b reach =
    tested (λ (o : Outcome). well_formed o.unit ≡ true) (inside reach u.settings.components)
    (λ within.
    concluded_formed (spent u) (spent_kept u w) (judged u b reach)
    (tested Forms (shape_legal b)
    (λ s.
    tested Forms u.nonces.live
    (λ l. tested Forms (key_there u (parsed b)) (λ k. by_id_forms (spent u) (spent_kept u w) (parsed b) reach k) (λ n. rejected))
    (λ n. rejected))
    (λ n. rejected)))
    (λ out. w)
