-- Demand 2: "Every answer, notification, frame and later state is what the published v1.3 rules and our house choices define, for every
-- write, read .." Here for the read and for each of the nine IDs: rightly built, on a unit that permits it, it is served with these bytes and
-- leaves this unit, whichever parts are in reach, in literal numbers over SHA256, HMAC and AES128 alone. Without this a tag that always refuses would keep every promise.
use Rattle.std.specs.Prelude.{ℕ, ◌+◌, ◌*◌, ◌-◌, ◌/◌, ◌%◌, ◌≤◌, ◌<◌, ◌≡◌, true, false, cond, not, ◌&&◌, List, [], ◌∷◌, ◌++◌, ◌⊎◌, eqb, ltb, ℤ, pos, negsuc, length, take, drop, get_or, replicate, Some, None}
use Rattle.laws.specs.Answer.{gives}
use Rattle.primitives.specs.Standards.{AES128, InvAES128}
use Rattle.unit.specs.declared.TagUnit.{TagUnit}
use Rattle.unit.specs.Types.{Owner}
use Rattle.unit.specs.declared.Sound.{Sound}
use Rattle.unit.specs.declared.Protection.{Protection}
use Rattle.unit.specs.WellFormed.{well_formed}
use Rattle.tag.specs.Calls.{read, Act, calls}
use Rattle.demanded_answers.specs.History.{step, sends}
use Rattle.demanded_answers.specs.EphemeralIdentifier.{r_of, identifier_of}
use Rattle.demanded_answers.specs.Spelled.{key_from, proof_from, tag_from, request_from, answer_from, bit, NoBitOutside, key_at_place, nonce_at_place, OwnedWith, AllBut, settings, clock, nonce, accounts, identity, waiting, sound, ring_nonce_is, protection, consent, pairing, NonceSpent, OnlySpends}

-- an act is served: it gives this answer, and the unit after it is as said
pub record Serves (a : Act) (u : TagUnit) (answer : List ℕ) (Left : TagUnit → Type 0) : Type 0 where
  pub answered : (step a u).result ≡ gives answer
  pub left : Left (step a u).unit

-- a unit that takes writes: well formed, with a live nonce; room for the answer, and a mask of reachable parts that it has
pub record Open (u : TagUnit) (reach room : ℕ) : Type 0 where
  pub formed : well_formed u ≡ true
  pub live : u.nonces.live ≡ true
  pub fits : 42 ≤ room
  pub within : NoBitOutside u.settings.components reach

-- What a phone sends and is answered with the unit's nonce; and by which keys: "Recovery, ring and protection keys .. 0x01, 0x02, 0x03
-- respectively". They are made from the identity key in force: while another waits, "all tags, key proofs, frames and 0x01 answers use the
-- old key, or none on a new unit"
module _ (u : TagUnit) where
  abbrev pub sent : ℕ → List ℕ → List ℕ → List ℕ
  sent id key additional = request_from id key u.nonces.newest additional

  abbrev pub answer : ℕ → List ℕ → List ℕ → List ℕ
  answer id key «data» = answer_from id key u.nonces.newest «data»

  abbrev pub recovery_key_of : List ℕ
  recovery_key_of = key_from 0x01 u.identity.bytes

  abbrev pub ring_key_of : List ℕ
  ring_key_of = key_from 0x02 u.identity.bytes

  abbrev pub protection_key_of : List ℕ
  protection_key_of = key_from 0x03 u.identity.bytes

  abbrev pub key_proof_of : List ℕ
  key_proof_of = proof_from u.identity.bytes u.nonces.newest

-- "the first held key whose tag matches", "most recently used first": the key at place p, and no earlier one, makes this tag for this write
abbrev pub First : TagUnit → ℕ → ℕ → Type 0
First u id p =
    (p < u.accounts.count)
    × ((i : ℕ) → i < p → tag_from (key_at_place u i) u.nonces.newest id 8 [] ≡ tag_from (key_at_place u p) u.nonces.newest id 8 [] → ⊥)

-- "power as one signed byte, two's complement"
abbrev pub signed_byte : ℤ → ℕ
signed_byte (pos n) = n
signed_byte (negsuc n) = 256 - (n + 1)

-- "power as one signed byte, two's complement; seconds; curve 0x00; components; volume capability; 8 zeros"
abbrev pub parameter_bytes : TagUnit → List ℕ
parameter_bytes u =
    signed_byte u.settings.power
    ∷ (u.clock.seconds / 16777216 % 256)
    ∷ (u.clock.seconds / 65536 % 256)
    ∷ (u.clock.seconds / 256 % 256)
    ∷ (u.clock.seconds % 256)
    ∷ 0x00
    ∷ u.settings.components
    ∷ u.settings.selectable
    ∷ replicate 8 0

-- "bit 0x01 identity key held, bit 0x02 the key used is owner": the key at place p. "0x01 with no owner makes that key the owner (house),
-- and its answer already shows it as owner"
abbrev pub owner_bit : Owner → ℕ → ℕ
owner_bit None p = 0x02
owner_bit (Some q) p = cond (eqb q p) 0x02 0x00

abbrev pub owner_then : Owner → ℕ → Owner
owner_then None p = Some p
owner_then (Some q) p = Some q

-- "0x01 omits the identifier .. only with no key or if r is 0 before the cut"
abbrev pub standing : TagUnit → List ℕ
standing u = cond (u.identity.held && not (eqb (r_of u) 0)) (identifier_of u) []

-- "The order of trial becomes most recently used first": the key at place p comes first, those before it stand one further on, and the others
-- where they stood; the owner's place is that of its key
abbrev pub brought_first : TagUnit → ℕ → List ℕ
brought_first u p = key_at_place u p ++ (take (16 * p) u.accounts.keys ++ drop (16 * p + 16) u.accounts.keys)

abbrev pub place_once_first : ℕ → ℕ → ℕ
place_once_first p q = cond (eqb q p) 0 (cond (ltb q p) (q + 1) q)

abbrev pub owner_once_first : ℕ → Owner → Owner
owner_once_first p None = None
owner_once_first p (Some q) = Some (place_once_first p q)

-- "least recently used in an accepted 0x00, 0x01 or 0x02": what 0x00 leaves
pub record KeyUsed (p : ℕ) (u v : TagUnit) : Type 0 where
  pub nonce_spent : NonceSpent u v
  pub count : v.accounts.count ≡ u.accounts.count
  pub keys : v.accounts.keys ≡ brought_first u p
  pub owner : v.accounts.owner ≡ owner_once_first p u.accounts.owner
  pub rest : AllBut (nonce ∷ accounts ∷ []) u v

-- and 0x01
pub record OwnerKnown (p : ℕ) (u v : TagUnit) : Type 0 where
  pub nonce_spent : NonceSpent u v
  pub count : v.accounts.count ≡ u.accounts.count
  pub keys : v.accounts.keys ≡ brought_first u p
  pub owner : v.accounts.owner ≡ owner_once_first p (owner_then u.accounts.owner p)
  pub rest : AllBut (nonce ∷ accounts ∷ []) u v

-- silent, with no nonce of a ring. A record with "room for absent things not zero, is not well formed"
abbrev pub Silent : TagUnit → Type 0
Silent v = (v.sound ≡ Sound.Silent) × (v.ring_nonce ≡ replicate 8 0)

-- no key waits: zeros in its room
abbrev pub NoneWaits : TagUnit → Type 0
NoneWaits v = v.waiting ≡ record { held = false; bytes = replicate 32 0 }

-- "The first 32 data bytes, two blocks decrypted with the owner key", are the key that now waits: "Until then the accepted key waits"; it
-- "replaces the waiting one". The key in force and the sound stay; the owner's account key was used
pub record Awaits (key C : List ℕ) (u v : TagUnit) : Type 0 where
  pub nonce_spent : NonceSpent u v
  pub waiting_is : v.waiting ≡ record { held = true; bytes = InvAES128 key (take 16 C) ++ InvAES128 key (take 16 (drop 16 C)) }
  pub count : v.accounts.count ≡ u.accounts.count
  pub keys : (p : ℕ) → u.accounts.owner ≡ Some p → v.accounts.keys ≡ brought_first u p
  pub owner_first : v.accounts.owner ≡ Some 0
  pub rest : AllBut (nonce ∷ accounts ∷ waiting ∷ []) u v

-- "The unit becomes fresh, keeping settings, clock, last nonce (spent), battery and pairing (house)"; "Fresh: no keys, nonce, sound,
-- protection, consent, pairing .."; "0x03 drops both", the key in force and the waiting one
pub record Cleared (u v : TagUnit) : Type 0 where
  pub nonce_spent : NonceSpent u v
  pub keyless : v.accounts ≡ record { count = 0; owner = None; keys = replicate 160 0 }
  pub unset : v.identity ≡ record { held = false; bytes = replicate 32 0 }
  pub none_waits : NoneWaits v
  pub silent : Silent v
  pub unprotected : v.protection ≡ Protection.Off
  pub unconsented : v.consent ≡ 0
  pub rest : AllBut (nonce ∷ accounts ∷ identity ∷ waiting ∷ sound ∷ ring_nonce_is ∷ protection ∷ consent ∷ []) u v

-- "Data: the identity key, two blocks encrypted with the owner key"
abbrev pub key_blocks : List ℕ → List ℕ → List ℕ
key_blocks key secret = AES128 key (take 16 secret) ++ AES128 key (take 16 (drop 16 secret))

-- "0x06 data: mask and tenths left; zeros when silent"
abbrev pub sound_bytes : Sound → List ℕ
sound_bytes Sound.Silent = 0 ∷ 0 ∷ 0 ∷ []
sound_bytes (Sound.Ringing mask volume left) = mask ∷ (left / 256) ∷ (left % 256) ∷ []

-- "A ring notice has ID 0x05, the ring key, data: status (0 started, 2 timeout, 3 button, 4 request), mask, tenths left; zeros once stopped"
module _ (u : TagUnit) (with : List ℕ) where
  abbrev pub start_notice : ℕ → ℕ → ℕ → List ℕ
  start_notice status mask left = answer_from 0x05 (ring_key_of u) with (status ∷ mask ∷ (left / 256) ∷ (left % 256) ∷ [])

  abbrev pub stop_notice : ℕ → List ℕ
  stop_notice status = answer_from 0x05 (ring_key_of u) with (status ∷ 0 ∷ 0 ∷ 0 ∷ [])

  -- "failed (status 0x01)"; "its notice carries the old mask and tenths left"
  abbrev pub fail_notice : List ℕ
  fail_notice = answer_from 0x05 (ring_key_of u) with (0x01 ∷ sound_bytes u.sound)

-- "The ringable mask, 0x00, 0x01, 0x03 or 0x07, has as many ones as the component number"
abbrev pub ringable : ℕ → ℕ
ringable components = get_or (0x00 ∷ 0x01 ∷ 0x03 ∷ 0x07 ∷ []) components 0

-- the mask that a requested one means: "Mask 0xFF means that whole mask", but not on a unit with no component; any other means itself, if
-- it has no bit outside the ringable mask, which is all ones: if it is not greater
pub data Means (components : ℕ) : ℕ → ℕ → Type 0 where
  whole : 0 < components → Means components 0xFF (ringable components)
  itself : {mask : ℕ} → mask ≤ ringable components → Means components mask mask

-- "0x81 if, after that, the mask has a bit outside it, if 0xFF meets a unit with none, if volume exceeds 3, or if mask isn't 0 and timeout
-- isn't 1 to 6,000"
pub record RingLegal (components asked mask timeout volume : ℕ) : Type 0 where
  pub means : Means components asked mask
  pub some : 0 < mask
  pub least : 1 ≤ timeout
  pub most : timeout ≤ 6000
  pub volume_within : volume ≤ 3

-- "0x05 data: mask, timeout (2 bytes), volume"
abbrev pub ring_bytes : ℕ → ℕ → ℕ → List ℕ
ring_bytes asked timeout volume = asked ∷ (timeout / 256) ∷ (timeout % 256) ∷ volume ∷ []

-- the tag of a 0x05 with these data: of the ring key, or, "For 0x05 with protection and skip on, any tag passes"
pub data RingTag (u : TagUnit) (additional : List ℕ) : List ℕ → Type 0 where
  signed : RingTag u additional (tag_from (ring_key_of u) u.nonces.newest 0x05 12 additional)
  skipped : {tag : List ℕ} → u.protection ≡ Protection.On true → length tag ≡ 8 → RingTag u additional tag

-- "when every requested part is out of reach", "when every sounding part is unreachable": no part of the mask is in reach
abbrev pub NoneReached : ℕ → ℕ → Type 0
NoneReached mask reach = (i : ℕ) → bit mask i ≡ 1 → bit reach i ≡ 0

-- "unreachable parts are dropped from the mask": these parts, at least one, are those of the mask that are in reach
pub record Reached (mask reach parts : ℕ) : Type 0 where
  pub some : 0 < parts
  pub parts_are : (i : ℕ) → bit parts i ≡ bit mask i * bit reach i

-- a stop "fails when every sounding part is unreachable, and otherwise silences all; while silent it succeeds as before"
pub data Stoppable (reach : ℕ) : Sound → Type 0 where
  silent : Stoppable reach Sound.Silent
  part_reached : {mask volume left : ℕ} (i : ℕ) → bit mask i ≡ 1 → bit reach i ≡ 1 → Stoppable reach (Sound.Ringing mask volume left)

-- "ringing with a mask, a volume, tenths left .. and the nonce of the accepted ring"; "Volume is held as 0 where not selectable"
pub record Rings (mask timeout volume : ℕ) (u v : TagUnit) : Type 0 where
  pub nonce_spent : NonceSpent u v
  pub sound_is : v.sound ≡ Sound.Ringing mask (cond (eqb u.settings.selectable 0) 0 volume) timeout
  pub nonce_kept : v.ring_nonce ≡ u.nonces.newest
  pub rest : AllBut (nonce ∷ sound ∷ ring_nonce_is ∷ []) u v

pub record Stopped (u v : TagUnit) : Type 0 where
  pub nonce_spent : NonceSpent u v
  pub silent : Silent v
  pub rest : AllBut (nonce ∷ sound ∷ ring_nonce_is ∷ []) u v

pub record Protects (p : Protection) (u v : TagUnit) : Type 0 where
  pub nonce_spent : NonceSpent u v
  pub protection_is : v.protection ≡ p
  pub rest : AllBut (nonce ∷ protection ∷ []) u v

pub record Issued (lent : List ℕ) (u v : TagUnit) : Type 0 where
  pub is_newest : v.nonces.newest ≡ lent
  pub is_live : v.nonces.live ≡ true
  pub one_more_nonce : u.nonces.count < 16 → v.nonces.count ≡ u.nonces.count + 1
  pub no_more : u.nonces.count ≡ 16 → v.nonces.count ≡ 16
  pub others_behind : v.nonces.earlier ≡ take 120 (u.nonces.newest ++ u.nonces.earlier)
  pub rest : AllBut (nonce ∷ []) u v

pub record Accepted : Type 0 where
  -- "Read gives 0x01 and the lent nonce (9 bytes) and makes that nonce live, replacing any other"; not one that "equals any of the last 16 issued"
  pub nonce_read : (u : TagUnit) (room : ℕ) (lent : List ℕ) → well_formed u ≡ true → 42 ≤ room → length lent ≡ 8
      → ((p : ℕ) → p < u.nonces.count → nonce_at_place u p ≡ lent → ⊥)
      → Serves (calls (read lent) room) u (0x01 ∷ lent) (Issued lent u)
  -- "0x00 data, encrypted by the account key used"
  pub parameters_read : (u : TagUnit) (reach room p : ℕ) → Open u reach room → First u 0x00 p
      → Serves (sends (sent u 0x00 (key_at_place u p) []) reach room) u
      (answer u 0x00 (key_at_place u p) (AES128 (key_at_place u p) (parameter_bytes u)))
      (KeyUsed p u)
  -- "0x01 data: bit 0x01 identity key held, bit 0x02 the key used is owner; then the identifier"
  pub state_read : (u : TagUnit) (reach room p : ℕ) → Open u reach room → First u 0x01 p
      → Serves (sends (sent u 0x01 (key_at_place u p) []) reach room) u
      (answer u 0x01 (key_at_place u p) ((cond u.identity.held 0x01 0x00 + owner_bit u.accounts.owner p) ∷ standing u))
      (OwnerKnown p u)
  -- "0x02: owner key .. 48: the last 8 bytes prove the held key. 40: none is held"; "still judged against the old key", whatever waits
  pub key_set : (u : TagUnit) (reach room : ℕ) (key C : List ℕ) → Open u reach room → OwnedWith u key → u.identity.held ≡ false → length C ≡ 32
      → Serves (sends (sent u 0x02 key C) reach room) u (answer u 0x02 key []) (Awaits key C u)
  pub key_replaced : (u : TagUnit) (reach room : ℕ) (key C : List ℕ) → Open u reach room → OwnedWith u key → u.identity.held ≡ true → length C ≡ 32
      → Serves (sends (sent u 0x02 key (C ++ key_proof_of u)) reach room) u (answer u 0x02 key []) (Awaits key C u)
  -- "0x03: owner key and key proof"
  pub key_cleared : (u : TagUnit) (reach room : ℕ) (key : List ℕ) → Open u reach room → OwnedWith u key → u.identity.held ≡ true
      → Serves (sends (sent u 0x03 key (key_proof_of u)) reach room) u (answer u 0x03 key []) (Cleared u)
  -- "0x04: recovery key; then consent left or pairing on .. Consent isn't used up"
  pub key_recovered : (u : TagUnit) (reach room : ℕ) (key : List ℕ) → Open u reach room → OwnedWith u key → u.identity.held ≡ true
      → ((0 < u.consent) ⊎ (u.pairing ≡ true))
      → Serves (sends (sent u 0x04 (recovery_key_of u) []) reach room) u (answer u 0x04 (recovery_key_of u) (key_blocks key u.identity.bytes)) (OnlySpends u)
  -- "0x05, 0x06: ring key": a ring, which "replaces the old one with no stop notice", of the parts in reach; it fails if there is none, whatever
  -- sounds. The values are judged on the mask that is asked for
  pub rings : (u : TagUnit) (reach room asked mask parts timeout volume : ℕ) (tag : List ℕ) → Open u reach room → u.identity.held ≡ true
      → RingLegal u.settings.components asked mask timeout volume → RingTag u (ring_bytes asked timeout volume) tag → Reached mask reach parts
      → Serves (sends (0x05 ∷ 12 ∷ tag ++ ring_bytes asked timeout volume) reach room) u
      (start_notice u u.nonces.newest 0 parts timeout)
      (Rings parts timeout volume u)
  pub start_fails : (u : TagUnit) (reach room asked mask timeout volume : ℕ) (tag : List ℕ) → Open u reach room → u.identity.held ≡ true
      → RingLegal u.settings.components asked mask timeout volume → RingTag u (ring_bytes asked timeout volume) tag → NoneReached mask reach
      → Serves (sends (0x05 ∷ 12 ∷ tag ++ ring_bytes asked timeout volume) reach room) u (fail_notice u u.nonces.newest) (OnlySpends u)
  -- a stop, which "ignores timeout"
  pub stops : (u : TagUnit) (reach room high low volume : ℕ) (tag : List ℕ) → Open u reach room → u.identity.held ≡ true → volume ≤ 3
      → RingTag u (0 ∷ high ∷ low ∷ volume ∷ []) tag → Stoppable reach u.sound
      → Serves (sends (0x05 ∷ 12 ∷ tag ++ (0 ∷ high ∷ low ∷ volume ∷ [])) reach room) u (stop_notice u u.nonces.newest 4) (Stopped u)
  pub stop_fails : (u : TagUnit) (reach room high low volume mask held left : ℕ) (tag : List ℕ) → Open u reach room → u.identity.held ≡ true
      → volume ≤ 3 → RingTag u (0 ∷ high ∷ low ∷ volume ∷ []) tag → u.sound ≡ Sound.Ringing mask held left → NoneReached mask reach
      → Serves (sends (0x05 ∷ 12 ∷ tag ++ (0 ∷ high ∷ low ∷ volume ∷ [])) reach room) u (fail_notice u u.nonces.newest) (OnlySpends u)
  -- "0x05, 0x06: ring key"; 0x06 does not look at the reach
  pub sound_read : (u : TagUnit) (reach room : ℕ) → Open u reach room → u.identity.held ≡ true
      → Serves (sends (sent u 0x06 (ring_key_of u) []) reach room) u (answer u 0x06 (ring_key_of u) (sound_bytes u.sound)) (OnlySpends u)
  -- "0x07: protection key; flag byte absent or 0 means skip off, 1 means on .. Given again, the new flag holds"
  pub protects : (u : TagUnit) (reach room : ℕ) → Open u reach room → u.identity.held ≡ true
      → Serves (sends (sent u 0x07 (protection_key_of u) []) reach room) u (answer u 0x07 (protection_key_of u) []) (Protects (Protection.On false) u)
  pub protects_flagged : (u : TagUnit) (reach room flag : ℕ) → Open u reach room → u.identity.held ≡ true → flag < 2
      → Serves (sends (sent u 0x07 (protection_key_of u) (flag ∷ [])) reach room) u (answer u 0x07 (protection_key_of u) []) (Protects (Protection.On (eqb flag 1)) u)
  -- "0x08: protection key and key proof; protection off, also if it was off"
  pub unprotects : (u : TagUnit) (reach room : ℕ) → Open u reach room → u.identity.held ≡ true
      → Serves (sends (sent u 0x08 (protection_key_of u) (key_proof_of u)) reach room) u (answer u 0x08 (protection_key_of u) []) (Protects Protection.Off u)
