-- Well-formedness by its lines: `well_formed u ≡ true` exactly if every line of "What a unit holds" is met, each by a name.
use Prim.Native.Nat.{ℕ, ◌*◌, ◌≤◌, ◌<◌}
use mathlib.Core.Path.{◌≡◌, sym, ap, ◌∙◌}
use mathlib.Core.List.{List, []}
use mathlib.Core.Bool.{Bool, true, false, not, ◌&&◌, ◌||◌}
use mathlib.Core.Logic.{◌⊎◌, inl, inr}
use lib.ListN.{length, get_or, drop}
use native.Mathlib.Omega.{arith}
use lib.Dec.{leb, eqb}
use borrow.Author.Tests.{ltb-true, leb-true, le-leb, eqb-true, eqb-false, eq-eqb, ne_eqb, not-true}
use Rattle.std.specs.Prelude.{Some}
use Rattle.laws.specs.Bytes.{all_zero}
use Rattle.laws.proofs.Flags.{true_or_false, and_left, and_right, both, or_left, or_right, or_rest, or_false}
use Rattle.tables.specs.Rows.{distinct}
use Rattle.tables.proofs.Rows.{length_rows, length_row}
use Rattle.nonces.specs.Nonces.{nonces_legal}
use Rattle.unit.specs.Ringable.{inside}
use Rattle.unit.specs.WellFormed.{power_legal, settings_legal, held_keys, accounts_legal, owner_legal, owned, identity_legal, sound_legal, protection_legal, well_formed}
use Rattle.sizes.specs.Sizes.{most_components, account_key_size, most_keys, keys_room, highest_volume, full_consent}
use Rattle.unit.specs.declared.TagUnit.{TagUnit}
use Rattle.unit.specs.declared.Settings.{Settings}
use Rattle.unit.specs.declared.Accounts.{Accounts}
use Rattle.unit.specs.declared.Sound.{Sound}
use Rattle.unit.specs.declared.Protection.{Protection}

pub record SettingsLines (s : Settings) : Type 0 where
  pub power : power_legal s.power ≡ true
  pub components : s.components ≤ 3
  pub selectable : s.selectable ≤ 1

pub record AccountsLines (a : Accounts) : Type 0 where
  pub room : length a.keys ≡ keys_room
  pub count : a.count ≤ most_keys
  pub different : distinct (held_keys a) ≡ true
  pub spare : all_zero (drop (a.count * account_key_size) a.keys) ≡ true

pub record Lines (u : TagUnit) : Type 0 where
  pub settings : SettingsLines u.settings
  pub tenth : u.clock.tenth ≤ 9
  pub accounts : AccountsLines u.accounts
  pub owner : owner_legal u.accounts ≡ true
  pub identity : identity_legal u.identity u.accounts.owner ≡ true
  pub waiting : identity_legal u.waiting u.accounts.owner ≡ true
  pub nonces : nonces_legal u.nonces ≡ true
  pub sound : sound_legal u.sound u.ring_nonce u.settings u.identity.held ≡ true
  pub protection : protection_legal u.protection u.identity.held ≡ true
  pub consent : u.consent ≤ 600
  pub battery : u.battery ≤ 3

pub settings_lines : (s : Settings) → settings_legal s ≡ true → SettingsLines s
unfolding settings_legal
settings_lines s h =
    let rest = and_right (power_legal s.power) _ h in
    record {
      power = and_left _ _ h;
      components = leb-true _ _ (and_left _ _ rest);
      selectable = leb-true _ _ (and_right (leb s.components most_components) _ rest);
    }

pub settings_legal_lem : (s : Settings) → SettingsLines s → settings_legal s ≡ true
unfolding settings_legal
settings_legal_lem s l = both l.power (both (le-leb _ _ l.components) (le-leb _ _ l.selectable))

pub accounts_lines : (a : Accounts) → accounts_legal a ≡ true → AccountsLines a
unfolding accounts_legal
accounts_lines a h =
    let from-count = and_right (eqb (length a.keys) keys_room) _ h in
    let rest = and_right (leb a.count most_keys) _ from-count in
    record {
      room = eqb-true _ _ (and_left _ _ h);
      count = leb-true _ _ (and_left _ _ from-count);
      different = and_left _ _ rest;
      spare = and_right (distinct (held_keys a)) _ rest;
    }

pub accounts_legal_lem : (a : Accounts) → AccountsLines a → accounts_legal a ≡ true
unfolding accounts_legal
accounts_legal_lem a l = both (eq-eqb _ _ l.room) (both (le-leb _ _ l.count) (both l.different l.spare))

pub lines : (u : TagUnit) → well_formed u ≡ true → Lines u
unfolding well_formed
lines u h =
    let from-tenth = and_right (settings_legal u.settings) _ h in
    let from-accounts = and_right (leb u.clock.tenth 9) _ from-tenth in
    let from-owner = and_right (accounts_legal u.accounts) _ from-accounts in
    let from-identity = and_right (owner_legal u.accounts) _ from-owner in
    let from-waiting = and_right (identity_legal u.identity u.accounts.owner) _ from-identity in
    let from-nonces = and_right (identity_legal u.waiting u.accounts.owner) _ from-waiting in
    let from-sound = and_right (nonces_legal u.nonces) _ from-nonces in
    let from-protection = and_right (sound_legal u.sound u.ring_nonce u.settings u.identity.held) _ from-sound in
    let from-consent = and_right (protection_legal u.protection u.identity.held) _ from-protection in
    let from-battery = and_right (leb u.consent full_consent) _ from-consent in
    record {
      settings = settings_lines _ (and_left _ _ h);
      tenth = leb-true _ _ (and_left _ _ from-tenth);
      accounts = accounts_lines _ (and_left _ _ from-accounts);
      owner = and_left _ _ from-owner;
      identity = and_left _ _ from-identity;
      waiting = and_left _ _ from-waiting;
      nonces = and_left _ _ from-nonces;
      sound = and_left _ _ from-sound;
      protection = and_left _ _ from-protection;
      consent = leb-true _ _ (and_left _ _ from-consent);
      battery = leb-true _ _ from-battery;
    }

pub formed : (u : TagUnit) → Lines u → well_formed u ≡ true
unfolding well_formed
formed u l =
    both (settings_legal_lem _ l.settings)
    (both (le-leb _ _ l.tenth)
    (both (accounts_legal_lem _ l.accounts)
    (both l.owner
    (both l.identity
    (both l.waiting
    (both l.nonces
    (both l.sound
    (both l.protection
    (both (le-leb _ _ l.consent)
    (le-leb _ _ l.battery))))))))))

-- Volume 0 where it is not selectable, as a test and as a fact
fixed_test : (selectable volume : ℕ) → (selectable ≡ 0 → volume ≡ 0) → not (eqb selectable 0) || eqb volume 0 ≡ true
fixed_test selectable volume h = go (true_or_false (eqb selectable 0))
  where
    go : (eqb selectable 0 ≡ true) ⊎ (eqb selectable 0 ≡ false) → not (eqb selectable 0) || eqb volume 0 ≡ true
    go (inl e) = or_right (not (eqb selectable 0)) (eq-eqb volume 0 (h (eqb-true selectable 0 e)))
    go (inr e) = or_left (eqb volume 0) (ap not e)

fixed_fact : (selectable volume : ℕ) → not (eqb selectable 0) || eqb volume 0 ≡ true → selectable ≡ 0 → volume ≡ 0
fixed_fact selectable volume h e = eqb-true volume 0 (or_rest (eqb volume 0) (ap not (eq-eqb selectable 0 e)) h)

pub record VolumeLines (selectable volume : ℕ) : Type 0 where
  pub most : volume ≤ 3
  pub fixed : selectable ≡ 0 → volume ≡ 0

pub volume_lines : (selectable volume : ℕ) → leb volume highest_volume && (not (eqb selectable 0) || eqb volume 0) ≡ true
    → VolumeLines selectable volume
volume_lines selectable volume h =
    record {
      most = leb-true _ _ (and_left _ _ h);
      fixed = fixed_fact selectable volume (and_right (leb volume highest_volume) _ h);
    }

pub volume_legal : (selectable volume : ℕ) → VolumeLines selectable volume
    → leb volume highest_volume && (not (eqb selectable 0) || eqb volume 0) ≡ true
volume_legal selectable volume l = both (le-leb _ _ l.most) (fixed_test selectable volume l.fixed)

-- What is so of a ring
pub record RingLines (mask volume left : ℕ) (s : Settings) (keyed : Bool) : Type 0 where
  pub identity_held : keyed ≡ true
  pub some : mask ≡ 0 → ⊥
  pub within : inside mask s.components ≡ true
  pub at_volume : VolumeLines s.selectable volume
  pub least : 1 ≤ left
  pub most : left ≤ 6000

module _ (mask volume left : ℕ) (nonce : List ℕ) (s : Settings) (keyed : Bool) where
  pub ring_lines : sound_legal (Sound.Ringing mask volume left) nonce s keyed ≡ true → RingLines mask volume left s keyed
  unfolding sound_legal
  ring_lines h =
      let from-mask = and_right keyed _ h in
      let masks = and_left _ _ from-mask in
      let from-volume = and_right (not (eqb mask 0) && inside mask s.components) _ from-mask in
      let from-fixed = and_right (leb volume highest_volume) _ from-volume in
      let lefts = and_right (not (eqb s.selectable 0) || eqb volume 0) _ from-fixed in
      record {
        identity_held = and_left _ _ h;
        some = eqb-false mask 0 (not-true _ (and_left _ _ masks));
        within = and_right (not (eqb mask 0)) _ masks;
        at_volume =
            record {
              most = leb-true _ _ (and_left _ _ from-volume);
              fixed = fixed_fact s.selectable volume (and_left _ _ from-fixed);
            };
        least = leb-true _ _ (and_left _ _ lefts);
        most = leb-true _ _ (and_right (leb 1 left) _ lefts);
      }

  pub ring_legal_lem : RingLines mask volume left s keyed → sound_legal (Sound.Ringing mask volume left) nonce s keyed ≡ true
  unfolding sound_legal
  ring_legal_lem l =
      both l.identity_held
      (both (both (ap not (ne_eqb mask 0 l.some)) l.within)
      (both (le-leb _ _ l.at_volume.most)
      (both (fixed_test s.selectable volume l.at_volume.fixed)
      (both (le-leb _ _ l.least) (le-leb _ _ l.most)))))

-- The keys held: how many, and how long each is
pub held_count : (a : Accounts) → length (held_keys a) ≡ a.count
unfolding held_keys
held_count a = length_rows account_key_size a.count a.keys

pub key_length_lem : (a : Accounts) (place : ℕ) → AccountsLines a → place < length (held_keys a) → length (get_or (held_keys a) place []) ≡ account_key_size
unfolding held_keys
key_length_lem a place l h =
    length_row account_key_size a.count a.keys place (omega (arith, length_rows account_key_size a.count a.keys))
    (omega (arith, l.room, l.count))

-- What a well-formed unit's owner, sound and protection say of the rest
module _ {u : TagUnit} (l : Lines u) where
  pub owner_held_lem : (place : ℕ) → u.accounts.owner ≡ Some place → place < u.accounts.count
  unfolding owner_legal
  owner_held_lem place e = ltb-true place u.accounts.count (rw e at l.owner)

  pub identity_owned : u.identity.held ≡ true → owned u.accounts.owner ≡ true
  unfolding identity_legal
  identity_owned e = sym (or_false _) ∙ (rw e at l.identity)

  pub waiting_owned_lem : u.waiting.held ≡ true → owned u.accounts.owner ≡ true
  unfolding identity_legal
  waiting_owned_lem e = sym (or_false _) ∙ (rw e at l.waiting)

  pub ring_held : {mask volume left : ℕ} → u.sound ≡ Sound.Ringing mask volume left
      → RingLines mask volume left u.settings u.identity.held
  ring_held {mask} {volume} {left} e =
      ring_lines mask volume left u.ring_nonce u.settings u.identity.held (rw e at l.sound)

  pub silent_zeros : u.sound ≡ Sound.Silent → all_zero u.ring_nonce ≡ true
  unfolding sound_legal
  silent_zeros e = rw e at l.sound

  pub protection_held : {skip : Bool} → u.protection ≡ Protection.On skip → u.identity.held ≡ true
  protection_held e = rw e at l.protection
