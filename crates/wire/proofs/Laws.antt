-- What callers use of keys, proofs, tags and answers: how long they are; and what lent bytes are after an answer that fits.
use mathlib.Core.Path.{◌≡◌, refl, ap, ◌∙◌}
use mathlib.Core.List.{List, [], ◌∷◌, ◌++◌}
use Prim.Native.Nat.{ℕ, suc, ◌+◌, ◌≤◌}
use native.Mathlib.Omega.{arith}
use lib.ListN.{length, take, drop, length-append, length-drop}
use lib.Seq.{length-take-le, take_at, drop_at}
use Rattle.laws.specs.Answer.{gives, lent_after}
use Rattle.laws.specs.Bytes.{big_endian}
use Rattle.laws.proofs.BigEndian.{length_big_endian}
use Rattle.primitives.specs.Standards.{SHA256, HMAC}
use Rattle.primitives.proofs.Laws.{length-SHA256, length-HMAC}
use Rattle.sizes.specs.Sizes.{tag_size}
use Rattle.wire.specs.Signing.{version, first_bytes, derived_key, ring_key, key_proof, request_tag, answer_tag, signed, ring_id, ring_notice}

length_first_bytes : (digest : List ℕ) → length digest ≡ 32 → length (first_bytes digest) ≡ tag_size
length_first_bytes digest e = length-take-le tag_size digest (omega arith)

pub length_derived_key : (n : ℕ) (identity : List ℕ) → length (derived_key n identity) ≡ tag_size
unfolding derived_key
length_derived_key n identity = length_first_bytes (SHA256 (identity ++ (n ∷ []))) (length-SHA256 (identity ++ (n ∷ [])))

pub length_key_proof : (identity nonce : List ℕ) → length (key_proof identity nonce) ≡ tag_size
unfolding key_proof
length_key_proof identity nonce = length_first_bytes (SHA256 (identity ++ nonce)) (length-SHA256 (identity ++ nonce))

pub length_request_tag : (key nonce : List ℕ) (id size : ℕ) (additional : List ℕ) → length (request_tag key nonce id size additional) ≡ tag_size
unfolding request_tag
length_request_tag key nonce id size additional =
    let m : List ℕ = version ∷ nonce ++ (id ∷ size ∷ additional) in length_first_bytes (HMAC key m) (length-HMAC key m)

module _ (key nonce : List ℕ) (id : ℕ) (payload : List ℕ) where
  pub length_answer_tag : length (answer_tag key nonce id payload) ≡ tag_size
  unfolding answer_tag
  length_answer_tag =
      let m : List ℕ = version ∷ nonce ++ (id ∷ (tag_size + length payload) ∷ payload ++ (0x01 ∷ [])) in
      length_first_bytes (HMAC key m) (length-HMAC key m)

  pub length_signed : length (signed key nonce id payload) ≡ 10 + length payload
  unfolding signed
  length_signed = omega (arith, length-append (answer_tag key nonce id payload) payload, length_answer_tag)

pub length_ring_notice : (identity nonce : List ℕ) (status mask left : ℕ) → length (ring_notice identity nonce status mask left) ≡ 14
unfolding ring_notice
length_ring_notice identity nonce status mask left =
    length_signed (ring_key identity) nonce ring_id (status ∷ mask ∷ big_endian 2 left) ∙ ap (λ (n : ℕ). 10 + suc (suc n)) (length_big_endian 2 left)

-- an answer that fits leaves as many lent bytes: itself in front, the rest as it was
module _ (answer before : List ℕ) (fits : length answer ≤ length before) where
  pub length_lent_after : length (lent_after (gives answer) before) ≡ length before
  unfolding lent_after
  length_lent_after = simp (length-append, length-drop) (omega arith)

module _ (answer before : List ℕ) where
  pub lent_front : take (length answer) (lent_after (gives answer) before) ≡ answer
  unfolding lent_after
  lent_front = take_at answer (drop (length answer) before) (length answer) refl

  pub lent_rest : drop (length answer) (lent_after (gives answer) before) ≡ drop (length answer) before
  unfolding lent_after
  lent_rest = drop_at answer (drop (length answer) before) (length answer) refl
