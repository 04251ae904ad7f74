-- "Read and write": the keys made from the identity key, key proofs, and the tags of requests and answers.
use Rattle.std.specs.Prelude.{ℕ, ◌+◌, List, [], ◌∷◌, ◌++◌, length, take}
use Rattle.laws.specs.Bytes.{big_endian}
use Rattle.sizes.specs.Sizes.{tag_size}
use Rattle.primitives.specs.Standards.{SHA256, HMAC}

-- the protocol's major version, 0x01
abbrev pub version : ℕ
version = 0x01

-- of a digest the first bytes stand for it, as a tag, a key or a proof
abbrev pub first_bytes : List ℕ → List ℕ
first_bytes digest = take tag_size digest

-- "Recovery, ring and protection keys are the first 8 bytes of SHA256(identity key, then 0x01, 0x02, 0x03 respectively)"
unfoldable pub derived_key : ℕ → List ℕ → List ℕ
derived_key n identity = first_bytes (SHA256 (identity ++ (n ∷ [])))

abbrev pub recovery_key : List ℕ → List ℕ
recovery_key identity = derived_key 0x01 identity

abbrev pub ring_key : List ℕ → List ℕ
ring_key identity = derived_key 0x02 identity

abbrev pub protection_key : List ℕ → List ℕ
protection_key identity = derived_key 0x03 identity

-- "A key proof is the first 8 bytes of SHA256(identity key, nonce)"
unfoldable pub key_proof : List ℕ → List ℕ → List ℕ
key_proof identity nonce = first_bytes (SHA256 (identity ++ nonce))

-- "Request tag: first 8 bytes of HMAC(key, 0x01, nonce, ID, length, additional)"
unfoldable pub request_tag : List ℕ → List ℕ → ℕ → ℕ → List ℕ → List ℕ
request_tag key nonce id size additional = first_bytes (HMAC key (version ∷ nonce ++ (id ∷ size ∷ additional)))

-- "tag is the first 8 bytes of HMAC(key of the request, 0x01, nonce, ID, length, data, 0x01)"
unfoldable pub answer_tag : List ℕ → List ℕ → ℕ → List ℕ → List ℕ
answer_tag key nonce id «data» =
    first_bytes (HMAC key (version ∷ nonce ++ (id ∷ (tag_size + length «data») ∷ «data» ++ (0x01 ∷ []))))

-- "Answers: ID, length (8 + data), tag, data"
unfoldable pub signed : List ℕ → List ℕ → ℕ → List ℕ → List ℕ
signed key nonce id «data» = id ∷ (tag_size + length «data») ∷ answer_tag key nonce id «data» ++ «data»

-- the ID of a ring and of its notices
abbrev pub ring_id : ℕ
ring_id = 0x05

-- "A ring notice has ID 0x05, the ring key, data: status (0 started, 2 timeout, 3 button, 4 request), mask, tenths left; zeros once
-- stopped"
abbrev pub started : ℕ
started = 0

-- "failed (status 0x01)"
abbrev pub failed : ℕ
failed = 1

abbrev pub timed_out : ℕ
timed_out = 2

abbrev pub by_button : ℕ
by_button = 3

abbrev pub by_request : ℕ
by_request = 4

abbrev pub notice_data : ℕ → ℕ → ℕ → List ℕ
notice_data status mask left = status ∷ mask ∷ big_endian 2 left

unfoldable pub ring_notice : List ℕ → List ℕ → ℕ → ℕ → ℕ → List ℕ
ring_notice identity nonce status mask left = signed (ring_key identity) nonce ring_id (notice_data status mask left)

abbrev pub stop_notice : List ℕ → List ℕ → ℕ → List ℕ
stop_notice identity nonce status = ring_notice identity nonce status 0 0
