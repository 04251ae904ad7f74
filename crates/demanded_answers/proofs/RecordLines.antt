-- A record is well formed exactly if it breaks none of the lines. Each line of `Lines`, a test or a bound, is read as the fact that it tests:
-- zeros byte by byte, different keys pair by pair, a mask bit by bit.
use Prim.Native.Nat.{ℕ, zero, suc, ◌+◌, ◌*◌, ◌-◌, ◌/◌, ◌%◌, ◌^◌, ◌≤◌, ◌<◌}
use mathlib.Core.Path.{◌≡◌, refl, sym, ap, ◌∙◌}
use mathlib.Core.Bool.{Bool, true, false, not, ◌&&◌, ◌||◌, false≢true}
use mathlib.Core.List.{List, [], ◌∷◌, ◌++◌}
use mathlib.Core.Logic.{◌⊎◌, inl, inr}
use native.Mathlib.Omega.{arith}
use lib.Dec.{eqb, ltb, leb→le, le→leb}
use lib.ListN.{length, get_or, drop}
use lib.Seq.{get_or-drop}
use lib.IntN.{ℤ, pos, negsuc, neg_ℤ}
use lib.Signed.{◌≤ℤ◌}
use borrow.Author.Tests.{eqb-true, eq-eqb, lt-ltb, ltb-true, ltb-false, leb-true, le-leb, not-true}
use Rattle.std.specs.Prelude.{Some, None}
use Rattle.laws.specs.Bytes.{all_zero, same_bytes}
use Rattle.laws.proofs.Flags.{true_or_false, and_left, and_right, both, or_cases, or_left, fails, clash}
use Rattle.laws.proofs.Same.{same_equal}
use Rattle.tables.specs.Rows.{among, distinct}
use Rattle.tables.proofs.Rows.{row_at, among_place}
use Rattle.unit.specs.Ringable.{inside}
use Rattle.unit.specs.WellFormed.{power_legal, held_keys, place_legal, owner_legal, owned, identity_legal, sound_legal, protection_legal}
use Rattle.unit.specs.declared.TagUnit.{TagUnit}
use Rattle.unit.specs.Types.{Owner}
use Rattle.unit.specs.declared.Identity.{Identity}
use Rattle.unit.specs.declared.Sound.{Sound}
use Rattle.unit.specs.declared.Protection.{Protection}
use Rattle.unit.proofs.Lines.{Lines, lines, formed, held_count, owner_held_lem, identity_owned, waiting_owned_lem, ring_held, ring_legal_lem, silent_zeros, protection_held}
use Rattle.nonces.specs.Nonces.{issued_nonces}
use Rattle.nonces.proofs.Lines.{NoncesLines, nonces_lines, nonces_legal_lem, issued_count}
use Rattle.demanded_answers.specs.Spelled.{key_at_place, nonce_at_place}
use Rattle.demanded_answers.specs.RecordLines.{Zeros, RingLines, RecordLines, WellFormedExactly}
use Rattle.demanded_answers.proofs.MaskBits.{inside_bits, bits_inside}

-- Zeros, byte by byte
zeros_at : (l : List ℕ) → all_zero l ≡ true → Zeros l
unfolding all_zero
zeros_at [] h i = refl
zeros_at (x ∷ xs) h zero = eqb-true x 0 (and_left _ _ h)
zeros_at (x ∷ xs) h (suc i) = zeros_at xs (and_right (eqb x 0) _ h) i

zeros_all : (l : List ℕ) → Zeros l → all_zero l ≡ true
unfolding all_zero
zeros_all [] z = refl
zeros_all (x ∷ xs) z = both (eq-eqb x 0 (z 0)) (zeros_all xs (λ i. z (suc i)))

-- Different keys, pair by pair
distinct_pairs : (l : List (List ℕ)) → distinct l ≡ true → (i j : ℕ) → i < j → j < length l → get_or l i [] ≡ get_or l j [] → ⊥
unfolding distinct
distinct_pairs [] d i j h k e = omega arith
distinct_pairs (x ∷ xs) d i zero h k e = omega arith
distinct_pairs (x ∷ xs) d zero (suc j) h k e =
    clash (and_left _ _ d) (ap not (rw (sym e) at (among_place xs j (omega arith))))
distinct_pairs (x ∷ xs) d (suc i) (suc j) h k e = distinct_pairs xs (and_right (not (among x xs)) _ d) i j (omega arith) (omega arith) e

pub among_found : (k : List ℕ) (l : List (List ℕ)) → among k l ≡ true → (j : ℕ) × (j < length l) × (k ≡ get_or l j [])
unfolding among
among_found k [] h = absurd (false≢true h)
among_found k (x ∷ xs) h = go (or_cases _ _ h) (among_found k xs)
  where
    go : (same_bytes k x ≡ true) ⊎ (among k xs ≡ true) → (among k xs ≡ true → (j : ℕ) × (j < length xs) × (k ≡ get_or xs j []))
        → (j : ℕ) × (j < suc (length xs)) × (k ≡ get_or (x ∷ xs) j [])
    go (inl e) later = (0, omega arith, same_equal k x e)
    go (inr e) later = let found = later e in (suc found.0, omega arith, found.2)

pairs_distinct : (l : List (List ℕ)) → ((i j : ℕ) → i < j → j < length l → get_or l i [] ≡ get_or l j [] → ⊥) → distinct l ≡ true
unfolding distinct
pairs_distinct [] differ = refl
pairs_distinct (x ∷ xs) differ =
    both
    (ap not (fails (among x xs) (λ e. let found = among_found x xs e in differ 0 (suc found.0) (omega arith) (omega arith) found.2)))
    (pairs_distinct xs (λ i j h k e. differ (suc i) (suc j) (omega arith) (omega arith) e))

-- the key at a place is the row at that place
pub key_at : (u : TagUnit) (p : ℕ) → p < u.accounts.count → get_or (held_keys u.accounts) p [] ≡ key_at_place u p
unfolding held_keys
key_at u p h =
    let there : p * 16 ≡ 16 * p = omega arith in
    row_at 16 u.accounts.count u.accounts.keys p h ∙ rw there

-- and the nonce at a place
pub nonce_at : (u : TagUnit) (p : ℕ) → p < u.nonces.count → get_or (issued_nonces u.nonces) p [] ≡ nonce_at_place u p
unfolding issued_nonces
nonce_at u p h =
    let there : p * 8 ≡ 8 * p = omega arith in
    row_at 8 u.nonces.count (u.nonces.newest ++ u.nonces.earlier) p h ∙ rw there

-- Spare room
spare_at : (l : List ℕ) (n i : ℕ) → all_zero (drop n l) ≡ true → n ≤ i → get_or l i 0 ≡ 0
spare_at l n i h k =
    let place : n + (i - n) ≡ i = omega arith in
    rw (get_or-drop, place) at (zeros_at (drop n l) h (i - n))

spare_all : (l : List ℕ) (n : ℕ) → ((i : ℕ) → n ≤ i → get_or l i 0 ≡ 0) → all_zero (drop n l) ≡ true
spare_all l n z = zeros_all (drop n l) (λ i. rw get_or-drop (z (n + i) (omega arith)))

-- Power
pub least_power_lem : (p : ℤ) → power_legal p ≡ true → neg_ℤ (pos 100) ≤ℤ p
least_power_lem (pos n) h = record { le = tt }
least_power_lem (negsuc n) h = record { le = le→leb n 99 (leb-true n 99 h) }

pub most_power_lem : (p : ℤ) → power_legal p ≡ true → p ≤ℤ pos 20
most_power_lem (pos n) h = record { le = le→leb n 20 (leb-true n 20 h) }
most_power_lem (negsuc n) h = record { le = tt }

pub power_legal_lem : (p : ℤ) → neg_ℤ (pos 100) ≤ℤ p → p ≤ℤ pos 20 → power_legal p ≡ true
power_legal_lem (pos n) least most = le-leb n 20 (leb→le n 20 most.le)
power_legal_lem (negsuc n) least most = le-leb n 99 (leb→le n 99 least.le)

-- From the tests to the facts
module _ (u : TagUnit) (l : Lines u) where
  not_nobody : owned u.accounts.owner ≡ true → u.accounts.owner ≡ None → ⊥
  not_nobody h e = false≢true (rw e at h)

  keys_differ : (i j : ℕ) → i < j → j < u.accounts.count → key_at_place u i ≡ key_at_place u j → ⊥
  keys_differ i j h k e =
      distinct_pairs (held_keys u.accounts) l.accounts.different i j h (omega (arith, held_count u.accounts))
      (key_at u i (omega arith) ∙ e ∙ sym (key_at u j k))

  ring_met : (mask volume left : ℕ) → u.sound ≡ Sound.Ringing mask volume left → RingLines u mask volume left
  ring_met mask volume left e =
      let r = ring_held l e in
      record {
        keyed = r.identity_held;
        some_mask = r.some;
        no_bit_outside = inside_bits mask u.settings.components r.within;
        loudest = r.at_volume.most;
        not_selectable = r.at_volume.fixed;
        least_left = r.least;
        most_left = r.most;
      }

  nonces_differ : (i j : ℕ) → i < j → j < u.nonces.count → nonce_at_place u i ≡ nonce_at_place u j → ⊥
  nonces_differ i j h k e =
      distinct_pairs (issued_nonces u.nonces) (nonces_lines u.nonces l.nonces).different i j h (omega (arith, issued_count u.nonces))
      (nonce_at u i (omega arith) ∙ e ∙ sym (nonce_at u j k))

  identity_absent : (k : Identity) → identity_legal k u.accounts.owner ≡ true → k.held ≡ false → all_zero k.bytes ≡ true
  unfolding identity_legal
  identity_absent k legal e = rw e at legal

  lines_met : RecordLines u
  lines_met =
      record {
        least_power = least_power_lem u.settings.power l.settings.power;
        most_power = most_power_lem u.settings.power l.settings.power;
        components = l.settings.components;
        selectable = l.settings.selectable;
        tenth = l.tenth;
        keys_room = l.accounts.room;
        keys_held = l.accounts.count;
        no_two_equal = keys_differ;
        no_other_keys = λ i h. spare_at u.accounts.keys (u.accounts.count * 16) i l.accounts.spare (omega arith);
        owner_held = owner_held_lem l;
        key_owned = λ e. not_nobody (identity_owned l e);
        no_key = λ e. zeros_at _ (identity_absent u.identity l.identity e);
        waiting_owned = λ e. not_nobody (waiting_owned_lem l e);
        none_waits = λ e. zeros_at _ (identity_absent u.waiting l.waiting e);
        newest_room = (nonces_lines u.nonces l.nonces).newest_room;
        earlier_room = (nonces_lines u.nonces l.nonces).rest_room;
        nonces_held = (nonces_lines u.nonces l.nonces).count;
        no_nonce_twice = nonces_differ;
        no_other_nonces = λ i h.
            spare_at (u.nonces.newest ++ u.nonces.earlier) (u.nonces.count * 8) i (nonces_lines u.nonces l.nonces).spare (omega arith);
        not_live = λ e. fails _ (λ live. omega (arith, (nonces_lines u.nonces l.nonces).held live));
        silent = λ e. zeros_at _ (silent_zeros l e);
        ringing = ring_met;
        protected = λ skip e. protection_held l e;
        consent = l.consent;
        battery = l.battery;
      }

-- And back
module _ (u : TagUnit) (l : RecordLines u) where
  owner_legal_lem : (o : Owner) → u.accounts.owner ≡ o → place_legal o u.accounts.count ≡ true
  owner_legal_lem None e = refl
  owner_legal_lem (Some p) e = lt-ltb p u.accounts.count (l.owner_held p e)

  owned_by : (o : Owner) → (o ≡ None → ⊥) → owned o ≡ true
  owned_by None h = absurd (h refl)
  owned_by (Some p) h = refl

  -- the key in force and the one that waits
  identity_legal_lem : (k : Identity) → (k.held ≡ true → u.accounts.owner ≡ None → ⊥) → (k.held ≡ false → Zeros k.bytes)
      → identity_legal k u.accounts.owner ≡ true
  unfolding identity_legal
  identity_legal_lem k some none = go k.held some none
    where
      go : (b : Bool) → (b ≡ true → u.accounts.owner ≡ None → ⊥) → (b ≡ false → Zeros k.bytes)
          → (b && owned u.accounts.owner) || (not b && all_zero k.bytes) ≡ true
      go true h z = or_left false (owned_by u.accounts.owner (h refl))
      go false h z = zeros_all _ (z refl)

  nonces_back : NoncesLines u.nonces
  nonces_back =
      record {
        newest_room = l.newest_room;
        rest_room = l.earlier_room;
        count = l.nonces_held;
        different =
            pairs_distinct (issued_nonces u.nonces)
            (λ i j h k e.
            let below : j < u.nonces.count = omega (arith, issued_count u.nonces) in
            l.no_nonce_twice i j h below (sym (nonce_at u i (omega arith)) ∙ e ∙ nonce_at u j below));
        spare = spare_all (u.nonces.newest ++ u.nonces.earlier) (u.nonces.count * 8) (λ i h. l.no_other_nonces i (omega arith));
        held = λ live. some (true_or_false (ltb 0 u.nonces.count)) live;
      }
    where
      some : (ltb 0 u.nonces.count ≡ true) ⊎ (ltb 0 u.nonces.count ≡ false) → u.nonces.live ≡ true → 0 < u.nonces.count
      some (inl e) live = ltb-true _ _ e
      some (inr e) live = absurd (clash live (l.not_live (let none : u.nonces.count ≤ 0 = ltb-false 0 u.nonces.count e in omega arith)))

  sound_legal_lem : (s : Sound) → u.sound ≡ s → sound_legal s u.ring_nonce u.settings u.identity.held ≡ true
  unfolding sound_legal
  sound_legal_lem Sound.Silent e = zeros_all _ (l.silent e)
  sound_legal_lem (Sound.Ringing mask volume left) e =
      let r = l.ringing mask volume left e in
      ring_legal_lem mask volume left u.ring_nonce u.settings u.identity.held
      (record {
        identity_held = r.keyed;
        some = r.some_mask;
        within = bits_inside mask u.settings.components r.no_bit_outside;
        at_volume = record { most = r.loudest; fixed = r.not_selectable };
        least = r.least_left;
        most = r.most_left;
      })

  protection_legal_lem : (p : Protection) → u.protection ≡ p → protection_legal p u.identity.held ≡ true
  protection_legal_lem Protection.Off e = refl
  protection_legal_lem (Protection.On skip) e = l.protected skip e

  lines_back : Lines u
  unfolding owner_legal
  lines_back =
      record {
        settings =
            record {
              power = power_legal_lem u.settings.power l.least_power l.most_power;
              components = l.components;
              selectable = l.selectable;
            };
        tenth = l.tenth;
        accounts =
            record {
              room = l.keys_room;
              count = l.keys_held;
              different =
                  pairs_distinct (held_keys u.accounts)
                  (λ i j h k e.
                  let below : j < u.accounts.count = omega (arith, held_count u.accounts) in
                  l.no_two_equal i j h below (sym (key_at u i (omega arith)) ∙ e ∙ key_at u j below));
              spare = spare_all u.accounts.keys (u.accounts.count * 16) (λ i h. l.no_other_keys i (omega arith));
            };
        owner = owner_legal_lem u.accounts.owner refl;
        identity = identity_legal_lem u.identity l.key_owned l.no_key;
        waiting = identity_legal_lem u.waiting l.waiting_owned l.none_waits;
        nonces = nonces_legal_lem u.nonces nonces_back;
        sound = sound_legal_lem u.sound refl;
        protection = protection_legal_lem u.protection refl;
        consent = l.consent;
        battery = l.battery;
      }

pub well_formed_exactly : WellFormedExactly
well_formed_exactly = record { met = λ u h. lines_met u (lines u h); enough = λ u l. formed u (lines_back u l) }
