-- Demand 2, what is no read and no write: a new unit, the button, pairing, battery, account keys, the disconnect, the
-- frame and one tenth of time. Each gives these bytes and changes these parts of a well-formed unit, in literal numbers, and no other part.
-- More tenths than one are that many single tenths by demand 3.
use Rattle.std.specs.Prelude.{ℕ, ◌+◌, ◌*◌, ◌-◌, ◌/◌, ◌%◌, ◌≤◌, ◌<◌, ◌≡◌, Bool, true, false, List, [], ◌∷◌, ◌++◌, ℤ, pos, negsuc, length, take, drop, get_or, replicate, Some, None}
use Rattle.std.specs.Int.Bits.{bit_xor}
use Rattle.laws.specs.Answer.{gives}
use Rattle.primitives.specs.Standards.{SHA256}
use Rattle.unit.specs.declared.TagUnit.{TagUnit}
use Rattle.unit.specs.declared.Sound.{Sound}
use Rattle.unit.specs.declared.Protection.{Protection}
use Rattle.unit.specs.WellFormed.{well_formed}
use Rattle.settings_calls.specs.Settings.{new_unit}
use Rattle.tag.specs.Calls.{Call, button, account_key, disconnect, frame, calls, waits}
use Rattle.demanded_answers.specs.History.{step}
use Rattle.demanded_answers.specs.Spelled.{key_at_place, AllBut, Part, clock, accounts, identity, waiting, sound, ring_nonce_is, consent}
use Rattle.demanded_answers.specs.EphemeralIdentifier.{r_of, identifier_of, cut_r}
use Rattle.demanded_answers.specs.Accepted.{owner_once_first, Serves, NoneWaits, Silent, stop_notice}

-- "calibrated power, a whole number from -100 to 20": negsuc n is -(n + 1)
abbrev pub PowerWithin : ℤ → Type 0
PowerWithin (pos n) = n ≤ 20
PowerWithin (negsuc n) = n + 1 ≤ 100

-- "Fresh: no keys, nonce, sound, protection, consent, pairing .. battery 0"; "A fresh unit starts at 0". No key: none in force,
-- and none that waits. A record with "room for absent things not zero, is not well formed"
pub record Fresh (power : ℤ) (components selectable : ℕ) (v : TagUnit) : Type 0 where
  pub settings_are : v.settings ≡ record { power = power; components = components; selectable = selectable }
  pub clock_is : v.clock ≡ record { seconds = 0; tenth = 0 }
  pub no_nonces : v.nonces ≡ record { count = 0; live = false; newest = replicate 8 0; earlier = replicate 120 0 }
  pub no_accounts : v.accounts ≡ record { count = 0; owner = None; keys = replicate 160 0 }
  pub no_identity : v.identity ≡ record { held = false; bytes = replicate 32 0 }
  pub none_waits : NoneWaits v
  pub silent : Silent v
  pub unprotected : v.protection ≡ Protection.Off
  pub unconsented : v.consent ≡ 0
  pub unpaired : v.pairing ≡ false
  pub unknown : v.battery ≡ 0

-- "A press while ringing stops it .. and gives no consent"
pub record Hushed (u v : TagUnit) : Type 0 where
  pub silent : Silent v
  pub rest : AllBut (sound ∷ ring_nonce_is ∷ []) u v

-- "A press while silent sets consent to 600 (house)"
pub record Consents (u v : TagUnit) : Type 0 where
  pub tenths : v.consent ≡ 600
  pub rest : AllBut (consent ∷ []) u v

pub record Pairs (on : Bool) (u v : TagUnit) : Type 0 where
  pub flag : v.pairing ≡ on
  pub rest : AllBut (Part.pairing ∷ []) u v

pub record Charged (level : ℕ) (u v : TagUnit) : Type 0 where
  pub level_is : v.battery ≡ level
  pub rest : AllBut (Part.battery ∷ []) u v

-- a new key takes the room of place p: it comes first, those before p stand one further on, and the owner's place is that of its key
pub record Arrives (key : List ℕ) (p : ℕ) (u v : TagUnit) : Type 0 where
  pub owner : v.accounts.owner ≡ owner_once_first p u.accounts.owner
  pub keys : v.accounts.keys ≡ key ++ (take (16 * p) u.accounts.keys ++ drop (16 * p + 16) u.accounts.keys)
  pub rest : AllBut (accounts ∷ []) u v

-- with room it takes the next place
pub record Keeps (key : List ℕ) (u v : TagUnit) : Type 0 where
  pub count : v.accounts.count ≡ u.accounts.count + 1
  pub first : Arrives key u.accounts.count u v

-- without, that of the last, or of the one before it where the last is the owner's
pub record Replaces (key : List ℕ) (u v : TagUnit) : Type 0 where
  pub count : v.accounts.count ≡ 10
  pub last : (u.accounts.owner ≡ Some 9 → ⊥) → Arrives key 9 u v
  pub not_the_owner : u.accounts.owner ≡ Some 9 → Arrives key 8 u v

-- The new key "takes effect right after the connection ends"; "Sound ends .. at a disconnect that brings a waiting key in"
pub record BroughtIn (u v : TagUnit) : Type 0 where
  pub in_force : v.identity ≡ record { held = true; bytes = u.waiting.bytes }
  pub none_waits : NoneWaits v
  pub silent : Silent v
  pub rest : AllBut (identity ∷ waiting ∷ sound ∷ ring_nonce_is ∷ []) u v

abbrev pub Same : TagUnit → TagUnit → Type 0
Same u v = v ≡ u

-- a unit that shows a frame: "a frame is refused with 5, only with no key or if r is 0 before the cut"
pub record Shows (u : TagUnit) (room : ℕ) : Type 0 where
  pub formed : well_formed u ≡ true
  pub fits : 42 ≤ room
  pub keyed : u.identity.held ≡ true
  pub above : r_of u ≡ 0 → ⊥

-- "XOR the last byte of SHA256(r)"
abbrev pub masked : ℕ → List ℕ → ℕ
masked flags r = bit_xor flags (get_or (SHA256 r) 31 0)

-- what one tenth gives and leaves: the answer, the tenth reported, the sound with its nonce, and "clock on by one; .. consent less one unless
-- 0"; "seconds as 32 bits, and a tenth 0 to 9 .. after the last second it returns to 0 on purpose"
pub record TenthPasses (u : TagUnit) (room : ℕ) (answer : List ℕ) (ended : ℕ) (s : Sound) (with : List ℕ) : Type 0 where
  pub answered : (step (waits 1 room) u).result ≡ gives answer
  pub reported : (step (waits 1 room) u).ended ≡ ended
  pub sound_is : (step (waits 1 room) u).unit.sound ≡ s
  pub nonce_is : (step (waits 1 room) u).unit.ring_nonce ≡ with
  pub tenth : (step (waits 1 room) u).unit.clock.tenth ≡ (u.clock.tenth + 1) % 10
  pub seconds : (step (waits 1 room) u).unit.clock.seconds ≡ (u.clock.seconds + (u.clock.tenth + 1) / 10) % 4294967296
  pub consent_left : (step (waits 1 room) u).unit.consent ≡ u.consent - 1
  pub rest : AllBut (clock ∷ sound ∷ ring_nonce_is ∷ consent ∷ []) u (step (waits 1 room) u).unit

-- a unit on which time passes; its seconds are 32 bits, as those of every record of the code
pub record Ticks (u : TagUnit) (room : ℕ) : Type 0 where
  pub formed : well_formed u ≡ true
  pub fits : 42 ≤ room
  pub small : u.clock.seconds < 4294967296

pub record Events : Type 0 where
  -- "A new unit checks only 1"
  pub unit_made : (power : ℤ) (components selectable : ℕ) → PowerWithin power → components ≤ 3 → selectable ≤ 1
      → ((new_unit power components selectable).result ≡ gives []) × Fresh power components selectable (new_unit power components selectable).unit
  -- "A press while ringing stops it, status 3"; "button notices use the nonce of the accepted ring"
  pub button_stops : (u : TagUnit) (room mask volume left : ℕ) → well_formed u ≡ true → 42 ≤ room → u.sound ≡ Sound.Ringing mask volume left
      → Serves (calls button room) u (stop_notice u u.ring_nonce 3) (Hushed u)
  pub button_consents : (u : TagUnit) (room : ℕ) → well_formed u ≡ true → 42 ≤ room → u.sound ≡ Sound.Silent
      → Serves (calls button room) u [] (Consents u)
  pub pairing_set : (u : TagUnit) (room : ℕ) (on : Bool) → well_formed u ≡ true → Serves (calls (Call.pairing on) room) u [] (Pairs on u)
  pub battery_set : (u : TagUnit) (room level : ℕ) → well_formed u ≡ true → level ≤ 3 → Serves (calls (Call.battery level) room) u [] (Charged level u)
  -- "Adding a key already held succeeds and changes nothing, even when full"
  pub key_held : (u : TagUnit) (room p : ℕ) (key : List ℕ) → well_formed u ≡ true → length key ≡ 16 → p < u.accounts.count → key_at_place u p ≡ key
      → Serves (calls (account_key key) room) u [] (Same u)
  -- "Arrival counts as use"
  pub key_added : (u : TagUnit) (room : ℕ) (key : List ℕ) → well_formed u ≡ true → length key ≡ 16 → u.accounts.count < 10
      → ((p : ℕ) → p < u.accounts.count → key_at_place u p ≡ key → ⊥)
      → Serves (calls (account_key key) room) u [] (Keeps key u)
  -- "when an eleventh comes, drop the one least recently used .., but never the owner"
  pub key_replaced : (u : TagUnit) (room : ℕ) (key : List ℕ) → well_formed u ≡ true → length key ≡ 16 → u.accounts.count ≡ 10
      → ((p : ℕ) → p < 10 → key_at_place u p ≡ key → ⊥)
      → Serves (calls (account_key key) room) u [] (Replaces key u)
  -- without answer bytes, and without a notice; "any other disconnect changes nothing"
  pub key_brought_in : (u : TagUnit) (room : ℕ) → well_formed u ≡ true → u.waiting.held ≡ true → Serves (calls disconnect room) u [] (BroughtIn u)
  pub nothing_brought_in : (u : TagUnit) (room : ℕ) → well_formed u ≡ true → u.waiting.held ≡ false → Serves (calls disconnect room) u [] (Same u)
  -- "02 01 06, length 0x18 or 0x19, 16 AA FE, 0x40 (0x41 under protection), identifier: 28 bytes, or 29 with the flags byte, when the length
  -- is 0x19. The flags byte is battery times 2 plus protection, XOR the last byte of SHA256(r); left out, exactly, when battery and
  -- protection are both 0"
  pub frame_bare : (u : TagUnit) (room : ℕ) → Shows u room → u.battery ≡ 0 → u.protection ≡ Protection.Off
      → Serves (calls frame room) u (0x02 ∷ 0x01 ∷ 0x06 ∷ 0x18 ∷ 0x16 ∷ 0xAA ∷ 0xFE ∷ 0x40 ∷ identifier_of u) (Same u)
  pub frame_flagged : (u : TagUnit) (room : ℕ) → Shows u room → 0 < u.battery → u.protection ≡ Protection.Off
      → Serves (calls frame room) u
      (0x02 ∷ 0x01 ∷ 0x06 ∷ 0x19 ∷ 0x16 ∷ 0xAA ∷ 0xFE ∷ 0x40 ∷ identifier_of u ++ (masked (u.battery * 2) (cut_r u) ∷ []))
      (Same u)
  pub frame_protected : (u : TagUnit) (room : ℕ) (skip : Bool) → Shows u room → u.protection ≡ Protection.On skip
      → Serves (calls frame room) u
      (0x02 ∷ 0x01 ∷ 0x06 ∷ 0x19 ∷ 0x16 ∷ 0xAA ∷ 0xFE ∷ 0x41 ∷ identifier_of u ++ (masked (u.battery * 2 + 1) (cut_r u) ∷ []))
      (Same u)
  -- "One tenth: clock on by one; ring left less one, and at 0 silent with a status 2 notice; consent less one unless 0"; "Timeout .. notices
  -- use the nonce of the accepted ring"; a call "reports the tenth .. at which a ring ended, or 0"
  pub tenth_silent : (u : TagUnit) (room : ℕ) → Ticks u room → u.sound ≡ Sound.Silent → TenthPasses u room [] 0 Sound.Silent u.ring_nonce
  pub tenth_ringing : (u : TagUnit) (room mask volume left : ℕ) → Ticks u room → u.sound ≡ Sound.Ringing mask volume left → 1 < left
      → TenthPasses u room [] 0 (Sound.Ringing mask volume (left - 1)) u.ring_nonce
  pub tenth_ends : (u : TagUnit) (room mask volume : ℕ) → Ticks u room → u.sound ≡ Sound.Ringing mask volume 1
      → TenthPasses u room (stop_notice u u.ring_nonce 2) 1 Sound.Silent (replicate 8 0)
