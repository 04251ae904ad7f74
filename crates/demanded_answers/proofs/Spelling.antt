-- Where the literal words of the statements meet the definitions: bytes of a number, the power byte, masks, what a ring asks for, whose
-- key the owner's is.
use Prim.Native.Nat.{ℕ, zero, suc, ◌+◌, ◌*◌, ◌-◌, ◌/◌, ◌%◌, ◌^◌, ◌≤◌, ◌<◌}
use mathlib.Core.Path.{◌≡◌, refl, sym, ap, ◌∙◌}
use mathlib.Core.Bool.{true, false, cond}
use mathlib.Core.List.{List, [], ◌∷◌}
use mathlib.Core.Option.{some}
use native.Mathlib.Omega.{arith}
use native.Mathlib.Numerals.{add-one}
use native.Mathlib.Nat.{mod-eq_of_lt}
use lib.Bits.{bit_and, and_mask}
use lib.Dec.{eqb, ltb}
use lib.IntN.{ℤ, pos, negsuc}
use lib.ListN.{get_or}
use borrow.Author.Tests.{le-leb, eq-eqb, ne_eqb, eqb-true}
use Rattle.std.specs.Prelude.{Some, None}
use Rattle.laws.specs.Bytes.{big_endian, number, number_after, same_bytes}
use Rattle.laws.proofs.Flags.{or_right, agree}
use Rattle.laws.proofs.Same.{same_refl, same_equal, equal_same}
use Rattle.tables.specs.Rows.{place_of}
use Rattle.tables.proofs.Rows.{row_at, place_at}
use Rattle.unit.specs.declared.TagUnit.{TagUnit}
use Rattle.unit.specs.declared.Settings.{Settings}
use Rattle.unit.specs.declared.Accounts.{Accounts}
use Rattle.unit.specs.Types.{Owner}
use Rattle.unit.specs.declared.Sound.{Sound}
use Rattle.unit.specs.Ringable.{inside}
use Rattle.unit.specs.WellFormed.{well_formed, held_keys, owner_key}
use Rattle.unit.proofs.Lines.{lines, Lines, held_count, owner_held_lem, ring_held}
use Rattle.parameter_read.specs.Parameters.{parameters, wire_byte}
use Rattle.state_read.specs.State.{claimed, is_key}
use Rattle.ring_values.specs.RingValues.{ring_mask, ring_legal, all_of_none, asked_timeout, sound_state}
use Rattle.demanded_answers.proofs.RecordLines.{key_at}
use Rattle.demanded_answers.specs.Spelled.{key_at_place, OwnedWith}
use Rattle.account_keys.specs.Order.{followed, key_used}
use Rattle.demanded_answers.specs.Accepted.{brought_first, owner_once_first, signed_byte, parameter_bytes, owner_bit, owner_then, ringable, Means, whole, itself, RingLegal, ring_bytes, sound_bytes}

-- Two bytes of a number that has no more, and four
pub two_bytes : (n : ℕ) → n < 65536 → big_endian 2 n ≡ (n / 256) ∷ (n % 256) ∷ []
unfolding big_endian
two_bytes n h = let high : n / 256 % 256 ≡ n / 256 = omega arith in rw high

pub four_bytes : (n : ℕ) → big_endian 4 n ≡ (n / 16777216 % 256) ∷ (n / 65536 % 256) ∷ (n / 256 % 256) ∷ (n % 256) ∷ []
unfolding big_endian
four_bytes n =
    let third : n / 256 / 256 ≡ n / 65536 = omega arith in
    let fourth : n / 65536 / 256 ≡ n / 16777216 = omega arith in
    rw (third, fourth)

power_byte : (n : ℤ) → wire_byte n ≡ signed_byte n
power_byte (pos n) = refl
power_byte (negsuc n) = omega arith

pub parameters_are : (u : TagUnit) → parameters u.settings u.clock.seconds ≡ parameter_bytes u
unfolding parameters
parameters_are u = rw (power_byte u.settings.power, four_bytes u.clock.seconds)

-- The timeout of a ring, read back from its two bytes
pub timeout_is : (asked timeout volume : ℕ) → asked_timeout (ring_bytes asked timeout volume) ≡ timeout
unfolding number number_after
timeout_is asked timeout volume = omega arith

-- The masks of the four component numbers, and what lies inside of one: all that is not greater
ringable_is : (components : ℕ) → components ≤ 3 → ringable components + 1 ≡ 2 ^ components
ringable_is zero h = refl
ringable_is (suc zero) h = refl
ringable_is (suc (suc zero)) h = refl
ringable_is (suc (suc (suc zero))) h = refl
ringable_is (suc (suc (suc (suc c)))) h = absurd (omega arith)

low_inside : (components mask : ℕ) → components ≤ 3 → mask ≤ ringable components → inside mask components ≡ true
low_inside components mask c h =
    let below : mask < 2 ^ components = omega (arith, ringable_is components c) in
    eq-eqb (bit_and mask (2 ^ components - 1)) mask (and_mask mask components ∙ mod-eq_of_lt below)

ringable_between : (components : ℕ) → components ≤ 3 → (components ≤ ringable components) × (ringable components ≤ 7)
ringable_between zero h = (omega arith, omega arith)
ringable_between (suc zero) h = (omega arith, omega arith)
ringable_between (suc (suc zero)) h = (omega arith, omega arith)
ringable_between (suc (suc (suc zero))) h = (omega arith, omega arith)
ringable_between (suc (suc (suc (suc c)))) h = absurd (omega arith)

-- What a requested mask means is the ring's mask, it is inside, and it is not the whole of no component
pub record Meant (s : Settings) (asked mask : ℕ) (rest : List ℕ) : Type 0 where
  pub is : ring_mask s (asked ∷ rest) ≡ mask
  pub within : inside mask s.components ≡ true
  pub someone : all_of_none s (asked ∷ rest) ≡ false

pub meant : (s : Settings) (asked mask : ℕ) (rest : List ℕ) → s.components ≤ 3 → Means s.components asked mask → Meant s asked mask rest
meant s asked mask rest few (whole more) =
    let ones = ringable_is s.components few in
    let is : 2 ^ s.components - 1 ≡ mask = omega arith in
    let ringing : (2 ^ s.components - 1 ≡ 0) → ⊥ = λ z. omega (arith, (ringable_between s.components few).0) in
    record { is = is; within = low_inside s.components mask few (omega arith); someone = ne_eqb (2 ^ s.components - 1) 0 ringing }
meant s asked mask rest few (itself low) =
    let other : eqb mask 0xFF ≡ false = ne_eqb mask 0xFF (λ e. omega (arith, (ringable_between s.components few).1)) in
    record { is = rw other; within = low_inside s.components mask few low; someone = rw other }

-- A ring with such values is legal, and so is a stop
pub ring_legal_lem : (s : Settings) (asked mask timeout volume : ℕ) → s.components ≤ 3 → RingLegal s.components asked mask timeout volume
    → ring_legal s (ring_bytes asked timeout volume) ≡ true
unfolding ring_legal
ring_legal_lem s asked mask timeout volume few l =
    let m = meant s asked mask ((timeout / 256) ∷ (timeout % 256) ∷ volume ∷ []) few l.means in
    rw (m.is, m.within, m.someone, timeout_is asked timeout volume, le-leb volume 3 l.volume_within, le-leb 1 timeout l.least, le-leb timeout 6000 l.most)
    (or_right (eqb mask 0) refl)

pub stop_legal : (s : Settings) (high low volume : ℕ) → s.components ≤ 3 → volume ≤ 3 → ring_legal s (0 ∷ high ∷ low ∷ volume ∷ []) ≡ true
unfolding ring_legal
stop_legal s high low volume few h = rw (low_inside s.components 0 few (omega arith), le-leb volume 3 h)

-- The owner's key by its place in the table
pub owner_at : (u : TagUnit) (key : List ℕ) → well_formed u ≡ true → OwnedWith u key → owner_key u.accounts ≡ some key
unfolding owner_key held_keys
owner_at u key right (p, o, k) = rw (o, key_at u p (owner_held_lem (lines u right) p o), k)

-- where the owner stands once a key is first
pub owner_moves : (p : ℕ) (o : Owner) → followed p o ≡ owner_once_first p o
owner_moves p None = refl
owner_moves p (Some q) = ap (λ (n : ℕ). Some (cond (eqb q p) 0 (cond (ltb q p) n q))) (sym (add-one q))

-- The key used in 0x01 is the one at place p: its place is p, so with no owner it is p's, and another owner's place has another key
module _ (u : TagUnit) (l : Lines u) (p : ℕ) (held : p < u.accounts.count) where
  key_place : place_of (key_at_place u p) (held_keys u.accounts) ≡ p
  key_place =
      rw (← key_at u p held)
      (place_at (held_keys u.accounts) p l.accounts.different (omega (arith, held_count u.accounts)))

  pub first_keys : (a : Accounts) → held_keys a ≡ held_keys u.accounts → a.keys ≡ u.accounts.keys
      → (key_used (key_at_place u p) a).keys ≡ brought_first u p
  first_keys a held keys =
      let here : place_of (key_at_place u p) (held_keys a) ≡ p = ap (place_of (key_at_place u p)) held ∙ key_place in
      let at : p * 16 ≡ 16 * p = omega arith in
      let past : suc p * 16 ≡ 16 * p + 16 = omega arith in
      rw (here, keys, at, past)

  claims : (o : Owner) → u.accounts.owner ≡ o → (claimed o (key_at_place u p) u.accounts).owner ≡ owner_then o p
  claims None e = ap Some key_place
  claims (Some q) e = e

  claimed_held : (o : Owner) → held_keys (claimed o (key_at_place u p) u.accounts) ≡ held_keys u.accounts
  unfolding held_keys
  claimed_held None = refl
  claimed_held (Some q) = refl

  claimed_table : (o : Owner) → (claimed o (key_at_place u p) u.accounts).keys ≡ u.accounts.keys
  claimed_table None = refl
  claimed_table (Some q) = refl

  -- the accounts of 0x01: the key is the owner where there was none, and first
  pub claimed_count : (o : Owner) → (claimed o (key_at_place u p) u.accounts).count ≡ u.accounts.count
  claimed_count None = refl
  claimed_count (Some q) = refl

  pub claimed_keys : (o : Owner) → (key_used (key_at_place u p) (claimed o (key_at_place u p) u.accounts)).keys ≡ brought_first u p
  claimed_keys o = first_keys (claimed o (key_at_place u p) u.accounts) (claimed_held o) (claimed_table o)

  pub claimed_owner : (o : Owner) → u.accounts.owner ≡ o
      → (key_used (key_at_place u p) (claimed o (key_at_place u p) u.accounts)).owner ≡ owner_once_first p (owner_then o p)
  claimed_owner o e =
      let here : place_of (key_at_place u p) (held_keys (claimed o (key_at_place u p) u.accounts)) ≡ p = ap (place_of (key_at_place u p)) (claimed_held o) ∙ key_place in
      rw (here, claims o e) (owner_moves p (owner_then o p))

  pub used_owner : (key_used (key_at_place u p) u.accounts).owner ≡ owner_once_first p u.accounts.owner
  used_owner = rw key_place (owner_moves p u.accounts.owner)

same_place : (u : TagUnit) → Lines u → (p q : ℕ) → p < u.accounts.count → q < u.accounts.count
    → same_bytes (key_at_place u q) (key_at_place u p) ≡ eqb q p
same_place u l p q h k =
    agree (same_bytes (key_at_place u q) (key_at_place u p)) (eqb q p)
    (λ e.
    let same : key_at_place u q ≡ key_at_place u p = same_equal (key_at_place u q) (key_at_place u p) e in
    eq-eqb q p (sym (key_place u l q k) ∙ ap (λ (key : List ℕ). place_of key (held_keys u.accounts)) same ∙ key_place u l p h))
    (λ e. equal_same (key_at_place u q) (key_at_place u p) (ap (key_at_place u) (eqb-true q p e)))

pub owner_bit_lem : (u : TagUnit) → Lines u → (p : ℕ) → p < u.accounts.count → (o : Owner) → u.accounts.owner ≡ o
    → cond (is_key (owner_key (claimed o (key_at_place u p) u.accounts)) (key_at_place u p)) 2 0 ≡ owner_bit o p
unfolding owner_key held_keys
owner_bit_lem u l p h None e = rw (key_place u l p h, key_at u p h, same_refl (key_at_place u p))
owner_bit_lem u l p h (Some q) e =
    let there = owner_held_lem l q e in
    rw (e, key_at u q there, same_place u l p q h there)

-- The tenths left of a ring are two bytes
pub sound_state_lem : (u : TagUnit) → Lines u → sound_state u.sound ≡ sound_bytes u.sound
unfolding big_endian
sound_state_lem u l = go u.sound refl
  where
    go : (s : Sound) → u.sound ≡ s → sound_state s ≡ sound_bytes s
    go Sound.Silent e = refl
    go (Sound.Ringing mask volume left) e = ap (λ (bs : List ℕ). mask ∷ bs) (two_bytes left (omega (arith, (ring_held l e).most)))
