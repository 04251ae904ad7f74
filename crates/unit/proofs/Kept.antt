-- What keeps a unit well formed: the fresh unit is, and each change of specs/Change keeps it so under its own condition.
-- Each law goes by the lines: those that a change does not touch are the unit's own.
use Prim.Native.Nat.{ℕ, ◌≤◌, ◌<◌}
use mathlib.Core.Path.{◌≡◌, refl}
use mathlib.Core.Bool.{Bool, true, false, not, ◌&&◌, ◌||◌}
use mathlib.Core.List.{List}
use mathlib.Core.Logic.{◌⊎◌, inl, inr}
use lib.ListN.{length}
use borrow.Author.Rules.{rules}
use borrow.Author.Tests.{lt-ltb}
use Rattle.std.specs.Prelude.{Some}
use Rattle.laws.specs.Bytes.{all_zero}
use Rattle.laws.proofs.Flags.{and_right, or_left, or_right, or_rest, true_or_false}
use Rattle.laws.proofs.Same.{replicate_zeros}
use Rattle.unit.specs.Change.{fresh, no_identity, identity_key, with_clock, with_nonces, with_accounts, with_owner, with_identity, with_waiting, with_protection, with_consent, with_pairing, with_battery, with_sound, silenced, spent}
use Rattle.sizes.specs.Sizes.{identity_key_size, nonce_size, full_consent, highest_battery}
use Rattle.tables.specs.Rows.{rows, distinct}
use Rattle.unit.specs.WellFormed.{settings_legal, held_keys, owner_legal, owned, identity_legal, sound_legal, protection_legal, well_formed}
use Rattle.unit.specs.declared.TagUnit.{TagUnit}
use Rattle.unit.specs.declared.Settings.{Settings}
use Rattle.unit.specs.declared.Clock.{Clock}
use Rattle.nonces.specs.declared.Nonces.{Nonces}
use Rattle.nonces.specs.Nonces.{nonces_legal, nonce_fits, with_issued}
use Rattle.nonces.proofs.Lines.{none_legal, spent_legal}
use Rattle.nonces.proofs.Issuing.{issued_legal}
use Rattle.unit.specs.declared.Accounts.{Accounts}
use Rattle.unit.specs.Types.{Owner}
use Rattle.unit.specs.declared.Identity.{Identity}
use Rattle.unit.specs.declared.Sound.{Sound}
use Rattle.unit.specs.declared.Protection.{Protection}
use Rattle.unit.proofs.Lines.{AccountsLines, RingLines, lines, formed, settings_lines, ring_legal_lem}

pub fresh_formed : (s : Settings) → settings_legal s ≡ true → well_formed (fresh s) ≡ true
unfolding held_keys rows distinct owner_legal identity_legal sound_legal all_zero
fresh_formed s h =
    formed (fresh s)
    (record {
      settings = settings_lines s h;
      tenth = search rules;
      accounts = record { room = refl; count = search rules; different = refl; spare = refl };
      owner = refl;
      identity = refl;
      waiting = refl;
      nonces = none_legal;
      sound = refl;
      protection = refl;
      consent = search rules;
      battery = search rules;
    })

-- An owner's place and an identity key: any place will do
placed_legal : (place : ℕ) (k : Identity) (o : Owner) → identity_legal k o ≡ true → identity_legal k (Some place) ≡ true
unfolding identity_legal
placed_legal place k o h = go (true_or_false k.held)
  where
    go : (k.held ≡ true) ⊎ (k.held ≡ false) → (k.held && true) || (not k.held && all_zero k.bytes) ≡ true
    go (inl e) = rw e
    go (inr e) = rw e (rw e at h)

-- What is legal without an identity key is so with one
sound_keyed : (x : Sound) (nonce : List ℕ) (s : Settings) (keyed : Bool) → sound_legal x nonce s keyed ≡ true → sound_legal x nonce s true ≡ true
unfolding sound_legal
sound_keyed Sound.Silent nonce s keyed h = h
sound_keyed (Sound.Ringing mask volume left) nonce s keyed h = and_right keyed _ h

protection_keyed : (p : Protection) (keyed : Bool) → protection_legal p keyed ≡ true → protection_legal p true ≡ true
protection_keyed Protection.Off keyed h = refl
protection_keyed (Protection.On skip) keyed h = refl

module _ (u : TagUnit) (w : well_formed u ≡ true) where
  pub clock_kept : (c : Clock) → c.tenth ≤ 9 → well_formed (with_clock c u) ≡ true
  clock_kept c h = let l = lines u w in formed (with_clock c u) (search rules)

  pub consent_kept : (n : ℕ) → n ≤ full_consent → well_formed (with_consent n u) ≡ true
  consent_kept n h = let l = lines u w in formed (with_consent n u) (search rules)

  pub battery_kept : (n : ℕ) → n ≤ highest_battery → well_formed (with_battery n u) ≡ true
  battery_kept n h = let l = lines u w in formed (with_battery n u) (search rules)

  pub pairing_kept : (on : Bool) → well_formed (with_pairing on u) ≡ true
  pairing_kept on = let l = lines u w in formed (with_pairing on u) (search rules)

  pub nonces_kept : (n : Nonces) → nonces_legal n ≡ true → well_formed (with_nonces n u) ≡ true
  nonces_kept n h = let l = lines u w in formed (with_nonces n u) (search rules)

  pub issued_kept : (nonce : List ℕ) → nonce_fits u.nonces nonce ≡ true → well_formed (with_nonces (with_issued nonce u.nonces) u) ≡ true
  issued_kept nonce fits = nonces_kept (with_issued nonce u.nonces) (issued_legal nonce u.nonces (lines u w).nonces fits)

  pub spent_kept : well_formed (spent u) ≡ true
  spent_kept = nonces_kept (spent u).nonces (spent_legal u.nonces (lines u w).nonces)

  pub accounts_kept : (a : Accounts) → AccountsLines a → owner_legal a ≡ true → owned a.owner ≡ owned u.accounts.owner
      → well_formed (with_accounts a u) ≡ true
  unfolding identity_legal
  accounts_kept a accounts owner same =
      let l = lines u w in
      let identity : identity_legal u.identity a.owner ≡ true = rw same l.identity in
      let waiting : identity_legal u.waiting a.owner ≡ true = rw same l.waiting in
      formed (with_accounts a u) (search rules)

  pub owner_kept : (place : ℕ) → place < u.accounts.count → well_formed (with_accounts (with_owner (Some place) u.accounts) u) ≡ true
  unfolding owner_legal held_keys
  owner_kept place h =
      let l = lines u w in
      let accounts : AccountsLines (with_owner (Some place) u.accounts) =
      record { room = l.accounts.room; count = l.accounts.count; different = l.accounts.different; spare = l.accounts.spare } in
      let owner = lt-ltb place u.accounts.count h in
      let identity = placed_legal place u.identity u.accounts.owner l.identity in
      let waiting = placed_legal place u.waiting u.accounts.owner l.waiting in
      formed (with_accounts (with_owner (Some place) u.accounts) u) (search rules)

  pub identity_kept : (bytes : List ℕ) → owned u.accounts.owner ≡ true → well_formed (with_identity (record { held = true; bytes = bytes }) u) ≡ true
  unfolding identity_legal
  identity_kept bytes h =
      let l = lines u w in
      let identity = or_left false h in
      let sound = sound_keyed u.sound u.ring_nonce u.settings u.identity.held l.sound in
      let protection = protection_keyed u.protection u.identity.held l.protection in
      formed (with_identity (record { held = true; bytes = bytes }) u) (search rules)

  pub waiting_kept : (bytes : List ℕ) → owned u.accounts.owner ≡ true → well_formed (with_waiting (identity_key bytes) u) ≡ true
  unfolding identity_legal
  waiting_kept bytes h =
      let l = lines u w in
      let waiting = or_left false h in
      formed (with_waiting (identity_key bytes) u) (search rules)

  -- no key waits
  pub unawaited_kept : well_formed (with_waiting no_identity u) ≡ true
  unfolding identity_legal
  unawaited_kept =
      let l = lines u w in
      let waiting : identity_legal no_identity u.accounts.owner ≡ true = replicate_zeros identity_key_size in
      formed (with_waiting no_identity u) (search rules)

  pub silenced_kept : well_formed (silenced u) ≡ true
  unfolding sound_legal
  silenced_kept =
      let l = lines u w in
      let sound = replicate_zeros nonce_size in
      formed (silenced u) (search rules)

  pub ring_kept : (mask volume left : ℕ) (nonce : List ℕ) → RingLines mask volume left u.settings u.identity.held
      → well_formed (with_sound (Sound.Ringing mask volume left) nonce u) ≡ true
  ring_kept mask volume left nonce r =
      let l = lines u w in
      let sound = ring_legal_lem mask volume left nonce u.settings u.identity.held r in
      formed (with_sound (Sound.Ringing mask volume left) nonce u) (search rules)

  pub protection_kept : (p : Protection) → protection_legal p u.identity.held ≡ true → well_formed (with_protection p u) ≡ true
  protection_kept p h = let l = lines u w in formed (with_protection p u) (search rules)
