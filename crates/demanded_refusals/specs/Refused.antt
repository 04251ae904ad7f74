-- Demand 2, that no other write is served: why a write is refused with 0x80, 0x81 or 0x82, in literal numbers. Exactly for these reasons, and
-- each only spends the nonce. A write that has none of them is served, and `Accepted` says with what. None of them looks at the mask of reachable
-- parts, if it passed: "values" too are those of the mask that is asked for.
use Rattle.std.specs.Prelude.{ℕ, ◌+◌, ◌*◌, ◌/◌, ◌%◌, ◌^◌, ◌≤◌, ◌<◌, ◌≡◌, true, false, List, [], ◌∷◌, ◌++◌, length, drop, None}
use Rattle.laws.specs.Answer.{gives, refuses}
use Rattle.unit.specs.declared.TagUnit.{TagUnit}
use Rattle.unit.specs.declared.Protection.{Protection}
use Rattle.unit.specs.WellFormed.{well_formed}
use Rattle.unit.specs.Outcome.{Outcome}
use Rattle.demanded_answers.specs.History.{step, sends}
use Rattle.demanded_answers.specs.Spelled.{key_from, proof_from, tag_from, key_at_place, OwnedWith, NoBitOutside, OnlySpends}

-- "Legal lengths: 0x00, 0x01, 0x04, 0x06: 8; 0x02: 40 or 48; 0x03, 0x08: 16; 0x05: 12; 0x07: 8 or 9"
pub data LegalLength : ℕ → ℕ → Type 0 where
  of_parameters : LegalLength 0x00 8
  of_state : LegalLength 0x01 8
  of_first_key : LegalLength 0x02 40
  of_next_key : LegalLength 0x02 48
  of_clearing : LegalLength 0x03 16
  of_recovery : LegalLength 0x04 8
  of_ring : LegalLength 0x05 12
  of_sound : LegalLength 0x06 8
  of_protection : LegalLength 0x07 8
  of_protection_flag : LegalLength 0x07 9
  of_unprotection : LegalLength 0x08 16

-- "A write is ID, length, 8 tag bytes, additional data .. Length counts tag and data, so the write has length + 2 bytes."
pub record Sent (w : List ℕ) (id size : ℕ) (tag additional : List ℕ) : Type 0 where
  pub bytes : w ≡ id ∷ size ∷ tag ++ additional
  pub tag_bytes : length tag ≡ 8
  pub counted : size ≡ 8 + length additional
  pub legal : LegalLength id size

abbrev pub Illegal : List ℕ → Type 0
Illegal w = (id size : ℕ) (tag additional : List ℕ) → Sent w id size tag additional → ⊥

-- whose tag the IDs 0x02 to 0x08 take: "0x02: owner key .. 0x03: owner key and key proof .. 0x04: recovery key .. 0x05, 0x06: ring key ..
-- 0x07: protection key .. 0x08: protection key and key proof"
pub data Signer (u : TagUnit) : ℕ → List ℕ → Type 0 where
  sets_key : {key : List ℕ} → OwnedWith u key → Signer u 0x02 key
  clears : {key : List ℕ} → OwnedWith u key → Signer u 0x03 key
  recovers : Signer u 0x04 (key_from 0x01 u.identity.bytes)
  rings : Signer u 0x05 (key_from 0x02 u.identity.bytes)
  reads_sound : Signer u 0x06 (key_from 0x02 u.identity.bytes)
  protects : Signer u 0x07 (key_from 0x03 u.identity.bytes)
  unprotects : Signer u 0x08 (key_from 0x03 u.identity.bytes)

-- "For 0x05 with protection and skip on, any tag passes."
abbrev pub Skipped : TagUnit → ℕ → Type 0
Skipped u id = (id ≡ 0x05) × (u.protection ≡ Protection.On true)

-- a legal write that passed its tag: the nonce is live, the identity key is held, and the tag is the signer's or is not looked at
pub data Tagged (u : TagUnit) (w : List ℕ) (id : ℕ) (additional : List ℕ) : Type 0 where
  signed : {size : ℕ} {tag key : List ℕ} → Sent w id size tag additional → u.nonces.live ≡ true → u.identity.held ≡ true
      → Signer u id key → tag ≡ tag_from key u.nonces.newest id size additional
      → Tagged u w id additional
  skipped : {size : ℕ} {tag : List ℕ} → Sent w id size tag additional → u.nonces.live ≡ true → u.identity.held ≡ true
      → Skipped u id
      → Tagged u w id additional

-- "0x81 if, after that, the mask has a bit outside it, if 0xFF meets a unit with none, if volume exceeds 3, or if mask isn't 0 and timeout
-- isn't 1 to 6,000." Bit i of the mask names a component if i is below the component number; 0xFF means all of them.
pub data IllegalRing (components mask high low volume : ℕ) : Type 0 where
  outside : (i : ℕ) → (mask ≡ 0xFF → ⊥) → components ≤ i → mask / 2 ^ i % 2 ≡ 1 → IllegalRing components mask high low volume
  nothing : mask ≡ 0xFF → components ≡ 0 → IllegalRing components mask high low volume
  too_loud : 3 < volume → IllegalRing components mask high low volume
  no_time : (mask ≡ 0 → ⊥) → 256 * high + low ≡ 0 → IllegalRing components mask high low volume
  too_long : (mask ≡ 0 → ⊥) → 6000 < 256 * high + low → IllegalRing components mask high low volume

-- why this write is refused on this unit with this number
pub data Reason (u : TagUnit) (w : List ℕ) : ℕ → Type 0 where
  -- "An unknown ID or any other count: 0x81", whether a nonce is live or not
  illegal_shape : Illegal w → Reason u w 0x81
  -- "no live nonce, 0x80 (house: skip-authentication ringing needs one too)"
  no_live_nonce : {id size : ℕ} {tag additional : List ℕ} → Sent w id size tag additional → u.nonces.live ≡ false → Reason u w 0x80
  -- "IDs 0x03 to 0x08 without an identity key: 0x80."
  no_identity_key : {id size : ℕ} {tag additional : List ℕ} → Sent w id size tag additional → 0x03 ≤ id → u.identity.held ≡ false
      → Reason u w 0x80
  -- "0x00, 0x01: any account key": it is the tag of none that is held
  nobodys_tag : {id size : ℕ} {tag additional : List ℕ} → Sent w id size tag additional → id ≤ 0x01
      → ((p : ℕ) → p < u.accounts.count → tag ≡ tag_from (key_at_place u p) u.nonces.newest id size additional → ⊥)
      → Reason u w 0x80
  -- "with no owner, 0x80"
  no_owner : {size : ℕ} {tag additional : List ℕ} → Sent w 0x02 size tag additional → u.accounts.owner ≡ None → Reason u w 0x80
  -- a tag of another key, nonce, ID, length or data
  wrong_tag : {id size : ℕ} {tag additional key : List ℕ} → Sent w id size tag additional → Signer u id key → (Skipped u id → ⊥)
      → (tag ≡ tag_from key u.nonces.newest id size additional → ⊥)
      → Reason u w 0x80
  -- "48: the last 8 bytes prove the held key. 40: none is held.": the one in force, for a write while a key waits "is still judged against the
  -- old key"
  proof_of_no_key : {tag additional : List ℕ} → Sent w 0x02 48 tag additional → u.identity.held ≡ false → Reason u w 0x80
  key_without_proof : {tag additional : List ℕ} → Sent w 0x02 40 tag additional → u.identity.held ≡ true → Reason u w 0x80
  wrong_proof_of_held : {tag additional : List ℕ} → Sent w 0x02 48 tag additional
      → (drop 32 additional ≡ proof_from u.identity.bytes u.nonces.newest → ⊥)
      → Reason u w 0x80
  -- the proof in 0x03 and 0x08, which alone have the length 16
  wrong_proof : {id : ℕ} {tag proof : List ℕ} → Sent w id 16 tag proof → (proof ≡ proof_from u.identity.bytes u.nonces.newest → ⊥)
      → Reason u w 0x80
  -- values, only after the tag: of 0x05, and the flag byte of 0x07, "absent or 0 means skip off, 1 means on, others 0x81"
  wrong_ring : {mask high low volume : ℕ} → Tagged u w 0x05 (mask ∷ high ∷ low ∷ volume ∷ [])
      → IllegalRing u.settings.components mask high low volume
      → Reason u w 0x81
  wrong_flag : {flag : ℕ} → Tagged u w 0x07 (flag ∷ []) → 1 < flag → Reason u w 0x81
  -- "recovery key; then consent left or pairing on": only after the tag
  no_consent : Tagged u w 0x04 [] → u.consent ≡ 0 → u.pairing ≡ false → Reason u w 0x82

-- "nonce spent, else same"
pub record RefusedWith (n : ℕ) (u : TagUnit) (o : Outcome) : Type 0 where
  pub number : o.result ≡ refuses n
  pub unit : OnlySpends u o.unit

pub record Refused : Type 0 where
  pub refused : (u : TagUnit) (reach room : ℕ) (w : List ℕ) (n : ℕ) → well_formed u ≡ true → 42 ≤ room → NoBitOutside u.settings.components reach
      → Reason u w n
      → RefusedWith n u (step (sends w reach room) u)
  pub only_then : (u : TagUnit) (reach room : ℕ) (w : List ℕ) (n : ℕ) → well_formed u ≡ true → 42 ≤ room → NoBitOutside u.settings.components reach
      → (step (sends w reach room) u).result ≡ refuses n
      → Reason u w n
  pub served : (u : TagUnit) (reach room : ℕ) (w : List ℕ) → well_formed u ≡ true → 42 ≤ room → NoBitOutside u.settings.components reach
      → ((n : ℕ) → Reason u w n → ⊥)
      → (answer : List ℕ) × ((step (sends w reach room) u).result ≡ gives answer)
