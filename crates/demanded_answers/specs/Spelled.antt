-- What phones send and see, in literal numbers over SHA256 and HMAC alone, and what of a unit stays: the words in which the statements here
-- hold the definitions of the crates below. So none of those definitions is cited, and one that is wrong there is refused here.
use Rattle.std.specs.Prelude.{ℕ, ◌+◌, ◌*◌, ◌/◌, ◌%◌, ◌^◌, ◌<◌, ◌≤◌, ◌≡◌, Bool, true, false, ◌||◌, List, [], ◌∷◌, ◌++◌, eqb, length, take, drop, Some}
use Rattle.primitives.specs.Standards.{SHA256, HMAC}
use Rattle.unit.specs.declared.TagUnit.{TagUnit}

-- "Recovery, ring and protection keys are the first 8 bytes of SHA256(identity key, then 0x01, 0x02, 0x03 respectively)"
abbrev pub key_from : ℕ → List ℕ → List ℕ
key_from n identity = take 8 (SHA256 (identity ++ (n ∷ [])))

-- "A key proof is the first 8 bytes of SHA256(identity key, nonce)"
abbrev pub proof_from : List ℕ → List ℕ → List ℕ
proof_from identity nonce = take 8 (SHA256 (identity ++ nonce))

-- "Request tag: first 8 bytes of HMAC(key, 0x01, nonce, ID, length, additional)"
abbrev pub tag_from : List ℕ → List ℕ → ℕ → ℕ → List ℕ → List ℕ
tag_from key nonce id size additional = take 8 (HMAC key (0x01 ∷ nonce ++ (id ∷ size ∷ additional)))

-- "A write is ID, length, 8 tag bytes, additional data .. Length counts tag and data"
abbrev pub request_from : ℕ → List ℕ → List ℕ → List ℕ → List ℕ
request_from id key nonce additional =
    id ∷ (8 + length additional) ∷ tag_from key nonce id (8 + length additional) additional ++ additional

-- "Answers: ID, length (8 + data), tag, data; tag is the first 8 bytes of HMAC(key of the request, 0x01, nonce, ID, length, data, 0x01)"
abbrev pub answer_from : ℕ → List ℕ → List ℕ → List ℕ → List ℕ
answer_from id key nonce «data» =
    id
    ∷ (8 + length «data»)
    ∷ take 8 (HMAC key (0x01 ∷ nonce ++ (id ∷ (8 + length «data») ∷ «data» ++ (0x01 ∷ []))))
    ++ «data»

-- bit i of a mask stands for part i; a mask without "a bit outside the ringable mask" has only parts below the component number
abbrev pub bit : ℕ → ℕ → ℕ
bit mask i = mask / 2 ^ i % 2

abbrev pub NoBitOutside : ℕ → ℕ → Type 0
NoBitOutside components mask = (i : ℕ) → components ≤ i → bit mask i ≡ 0

-- the account key at a place of the table, 16 bytes each; and whose key the owner's is
abbrev pub key_at_place : TagUnit → ℕ → List ℕ
key_at_place u p = take 16 (drop (16 * p) u.accounts.keys)

abbrev pub OwnedWith : TagUnit → List ℕ → Type 0
OwnedWith u key = (p : ℕ) × (u.accounts.owner ≡ Some p) × (key_at_place u p ≡ key)

-- the issued nonce at a place, 8 bytes each, the newest first
abbrev pub nonce_at_place : TagUnit → ℕ → List ℕ
nonce_at_place u p = take 8 (drop (8 * p) (u.nonces.newest ++ u.nonces.earlier))

-- The parts of a unit: `identity` is the identity key in force, `waiting` the one that waits
pub data Part : Type 0 where
  settings clock nonce accounts identity waiting sound ring_nonce_is protection consent pairing battery : Part

abbrev pub place : Part → ℕ
place settings = 0
place clock = 1
place nonce = 2
place accounts = 3
place identity = 4
place waiting = 5
place sound = 6
place ring_nonce_is = 7
place protection = 8
place consent = 9
place pairing = 10
place battery = 11

abbrev pub is_one_of : Part → List Part → Bool
is_one_of p [] = false
is_one_of p (q ∷ qs) = eqb (place p) (place q) || is_one_of p qs

abbrev pub Unless : Bool → Type 0 → Type 0
Unless true T = Unit {0}
Unless false T = T

-- every part of v but these is as in u
abbrev pub AllBut : List Part → TagUnit → TagUnit → Type 0
AllBut changed u v =
    Unless (is_one_of settings changed) (v.settings ≡ u.settings)
    × Unless (is_one_of clock changed) (v.clock ≡ u.clock)
    × Unless (is_one_of nonce changed) (v.nonces ≡ u.nonces)
    × Unless (is_one_of accounts changed) (v.accounts ≡ u.accounts)
    × Unless (is_one_of identity changed) (v.identity ≡ u.identity)
    × Unless (is_one_of waiting changed) (v.waiting ≡ u.waiting)
    × Unless (is_one_of sound changed) (v.sound ≡ u.sound)
    × Unless (is_one_of ring_nonce_is changed) (v.ring_nonce ≡ u.ring_nonce)
    × Unless (is_one_of protection changed) (v.protection ≡ u.protection)
    × Unless (is_one_of consent changed) (v.consent ≡ u.consent)
    × Unless (is_one_of pairing changed) (v.pairing ≡ u.pairing)
    × Unless (is_one_of battery changed) (v.battery ≡ u.battery)

-- "spends the nonce": v's nonces are u's, and none is live
pub record NonceSpent (u v : TagUnit) : Type 0 where
  pub count : v.nonces.count ≡ u.nonces.count
  pub newest : v.nonces.newest ≡ u.nonces.newest
  pub earlier : v.nonces.earlier ≡ u.nonces.earlier
  pub dead : v.nonces.live ≡ false

-- "spends the nonce and changes nothing else in the unit"
pub record OnlySpends (u v : TagUnit) : Type 0 where
  pub nonce_spent : NonceSpent u v
  pub rest : AllBut (nonce ∷ []) u v
