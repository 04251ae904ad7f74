-- The sizes and limits of the paper, once each, with the sentences that they come from.
use Rattle.std.specs.Prelude.{ℕ, ◌+◌, ◌*◌, ◌-◌, ◌/◌, ◌^◌}

abbrev pub nonce_size : ℕ
nonce_size = 8

-- "any of the last 16 issued"; "A well-formed record holds up to 16"
abbrev pub most_nonces : ℕ
most_nonces = 16

-- room for all of them, and for those before the newest
abbrev pub nonces_room : ℕ
nonces_room = most_nonces * nonce_size

abbrev pub earlier_room : ℕ
earlier_room = nonces_room - nonce_size

-- "ID, length, 8 tag bytes"; keys made from the identity key and key proofs have as many: "the first 8 bytes of SHA256(..)"
abbrev pub tag_size : ℕ
tag_size = 8

-- a block of AES, and a digest of SHA-256
abbrev pub block_size : ℕ
block_size = 16

abbrev pub digest_size : ℕ
digest_size = 32

-- "SHA-256 and HMAC over messages up to 65,535 bytes"
abbrev pub longest_message : ℕ
longest_message = 65535

-- "account keys of 16 bytes"; "Raise the table from 5 keys to 10"
abbrev pub account_key_size : ℕ
account_key_size = 16

abbrev pub most_keys : ℕ
most_keys = 10

abbrev pub keys_room : ℕ
keys_room = most_keys * account_key_size

-- "a 32-byte identity key"
abbrev pub identity_key_size : ℕ
identity_key_size = 32

-- the identifier of SECP160R1; r is "cut or padded to 160 bits"
abbrev pub identifier_size : ℕ
identifier_size = 20

-- "02 01 06, length 0x18 or 0x19, 16 AA FE, 0x40 (0x41 under protection), identifier: 28 bytes, or 29 with the flags byte"
abbrev pub frame_identifier_at : ℕ
frame_identifier_at = 8

abbrev pub frame_flags_at : ℕ → ℕ
frame_flags_at size = frame_identifier_at + size

abbrev pub longest_frame : ℕ
longest_frame = frame_flags_at identifier_size + 1

-- "A write is ID, length, 8 tag bytes, additional data"
abbrev pub head_size : ℕ
head_size = 2 + tag_size

-- "Length counts tag and data": a byte, so that no request has more
abbrev pub most_length : ℕ
most_length = 255

-- the most data that an answer has, those of 0x04, "the identity key, two blocks"; and so "lent answer bytes fewer than 42": refusal 6
abbrev pub most_data : ℕ
most_data = identity_key_size

abbrev pub answer_room : ℕ
answer_room = head_size + most_data

-- "components 0 to 3", "a volume of at most 3", "battery 0 to 3"
abbrev pub most_components : ℕ
most_components = 3

abbrev pub highest_volume : ℕ
highest_volume = 3

abbrev pub highest_battery : ℕ
highest_battery = 3

-- "tenths left (1 to 6,000)"
abbrev pub longest_ring : ℕ
longest_ring = 6000

-- "Consent tenths left, 0 to 600"
abbrev pub full_consent : ℕ
full_consent = 600

-- "The window is the seconds with the low 10 bits cleared (house: K = 10)". "House" is the paper's word for a choice that it makes
-- where the published rules are silent or disagree. K is the accessory rules' exponent of the rotation period
abbrev pub rotation_exponent : ℕ
rotation_exponent = 10

abbrev pub window_length : ℕ
window_length = 2 ^ rotation_exponent

abbrev pub window : ℕ → ℕ
window seconds = seconds / window_length * window_length
