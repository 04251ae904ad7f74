-- The refusal list over all calls, in literal numbers: "Each is given exactly then .. Order: 6, 2, then the call's own .. A new unit checks
-- only 1." For a write 6, 2, 1, and then the nonce is spent. A call is refused with a number exactly if one of the lines below gives that number, and then
-- the unit is as it was; a write that is refused with 0x80, 0x81 or 0x82 only spends its nonce.
use Rattle.std.specs.Prelude.{ℕ, ◌≤◌, ◌<◌, ◌≡◌, true, false, List, length, ℤ, pos, neg_ℤ, ◌<ℤ◌, Err}
use Rattle.laws.specs.Answer.{refuses}
use Rattle.unit.specs.declared.TagUnit.{TagUnit}
use Rattle.unit.specs.declared.Refusal as code
use Rattle.unit.specs.Refusals.{refusal_number}
use Rattle.unit.specs.WellFormed.{well_formed}
use Rattle.sleep.specs.Sleep.{Sleep, Sleeps}
use Rattle.settings_calls.specs.Settings.{new_unit}
use Rattle.tag.specs.Calls.{Written, read, write, button, battery, account_key, frame, Act, calls, waits}
use Rattle.demanded_answers.specs.History.{step}
use Rattle.demanded_answers.specs.Spelled.{bit, NoBitOutside, nonce_at_place, OnlySpends}
use Rattle.demanded_refusals.specs.Refused.{Reason}
use Rattle.demanded_answers.specs.EphemeralIdentifier.{r_of}

-- "Calls with answer bytes: read, write, button, elapsed, frame." The act, and how many it is lent
pub data Lent : Act → ℕ → Type 0 where
  to_read : {nonce : List ℕ} {room : ℕ} → Lent (calls (read nonce) room) room
  to_write : {w : Written} {room : ℕ} → Lent (calls (write w) room) room
  to_button : {room : ℕ} → Lent (calls button room) room
  to_frame : {room : ℕ} → Lent (calls frame room) room
  to_elapsed : {tenths room : ℕ} → Lent (waits tenths room) room

-- a call's own refusals, on a well-formed unit. Button, elapsed, pairing and disconnect have none
pub data Own (u : TagUnit) : Act → ℕ → Type 0 where
  -- 3: "lent nonce not 8 bytes"; "when the lent nonce equals any of the last 16 issued, live or spent"
  nonce_length : {nonce : List ℕ} {room : ℕ} → (length nonce ≡ 8 → ⊥) → Own u (calls (read nonce) room) 3
  nonce_held : {nonce : List ℕ} {room : ℕ} (p : ℕ) → p < u.nonces.count → nonce_at_place u p ≡ nonce → Own u (calls (read nonce) room) 3
  -- 1: "A lent mask with a bit outside the ringable mask is refused with 1, after 6 and 2 and before the nonce is spent.", whatever is written
  reach_outside : {w : Written} {room : ℕ} (i : ℕ) → u.settings.components ≤ i → bit w.reach i ≡ 1 → Own u (calls (write w) room) 1
  -- 0x80, 0x81, 0x82, where 1 is not due
  of_write : {w : Written} {room n : ℕ} → NoBitOutside u.settings.components w.reach → Reason u w.bytes n → Own u (calls (write w) room) n
  -- 1: "settings or battery out of range"
  battery_level : {level room : ℕ} → 3 < level → Own u (calls (battery level) room) 1
  -- 4: "account key not 16 bytes"; "Refusal 4 then remains only for a wrong size."
  key_length : {key : List ℕ} {room : ℕ} → (length key ≡ 16 → ⊥) → Own u (calls (account_key key) room) 4
  -- 5: "a frame is refused with 5, only with no key or if r is 0 before the cut"
  frame_without_key : {room : ℕ} → u.identity.held ≡ false → Own u (calls frame room) 5
  frame_of_zero : {room : ℕ} → r_of u ≡ 0 → Own u (calls frame room) 5

-- why an act is refused on a unit, with its number, in order
pub data Refusal (u : TagUnit) (a : Act) : ℕ → Type 0 where
  -- 6: "lent answer bytes fewer than 42", whatever the unit
  too_little_room : {room : ℕ} → Lent a room → room < 42 → Refusal u a 6
  -- 2: "unit not well formed", where 6 is not due
  not_well_formed : ((room : ℕ) → Lent a room → 42 ≤ room) → well_formed u ≡ false → Refusal u a 2
  own : {n : ℕ} → ((room : ℕ) → Lent a room → 42 ≤ room) → well_formed u ≡ true → Own u a n → Refusal u a n

-- "settings .. out of range"
pub data OutOfRange (power : ℤ) (components selectable : ℕ) : Type 0 where
  power_too_low : power <ℤ neg_ℤ (pos 100) → OutOfRange power components selectable
  power_too_high : pos 20 <ℤ power → OutOfRange power components selectable
  too_many_components : 3 < components → OutOfRange power components selectable
  selectable_over_one : 1 < selectable → OutOfRange power components selectable

pub record RefusalOrder : Type 0 where
  pub refused : (a : Act) (u : TagUnit) (n : ℕ) → Refusal u a n → (step a u).result ≡ refuses n
  pub only_then : (a : Act) (u : TagUnit) (n : ℕ) → (step a u).result ≡ refuses n → Refusal u a n
  -- the unit afterwards, by the number
  pub same : (a : Act) (u : TagUnit) (n : ℕ) → n < 0x80 → (step a u).result ≡ refuses n → (step a u).unit ≡ u
  pub spent : (a : Act) (u : TagUnit) (n : ℕ) → 0x80 ≤ n → (step a u).result ≡ refuses n → OnlySpends u (step a u).unit
  -- a new unit: 1, and then none is made
  pub new_units : (power : ℤ) (components selectable : ℕ) → OutOfRange power components selectable
      → (new_unit power components selectable).result ≡ refuses 1
  pub new_units_only_then : (power : ℤ) (components selectable n : ℕ) → (new_unit power components selectable).result ≡ refuses n
      → (n ≡ 1) × OutOfRange power components selectable
  pub none_made : (power : ℤ) (components selectable : ℕ) → OutOfRange power components selectable
      → well_formed (new_unit power components selectable).unit ≡ false
  -- how long it may sleep: 2 on a unit that is not well formed, and only there
  pub sleep_refused : (u : TagUnit) (s : Sleep) → Sleeps u s → well_formed u ≡ false → (r : code.Refusal) × (s ≡ Err r) × (refusal_number r ≡ 2)
  pub sleep_refused_only_then : (u : TagUnit) (s : Sleep) (r : code.Refusal) → Sleeps u s → s ≡ Err r → well_formed u ≡ false
