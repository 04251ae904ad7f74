-- How a write of ID, length, eight tag bytes and additional data is judged: its parts are those, and where the unit takes writes, the
-- length is legal and a needed identity key is there, it comes to the judgement by its ID.
use Prim.Native.Nat.{ℕ, ◌+◌, ◌≤◌}
use mathlib.Core.Path.{◌≡◌, sym, ap, ◌∙◌}
use mathlib.Core.Bool.{true, ◌||◌}
use mathlib.Core.List.{List, [], ◌∷◌, ◌++◌}
use native.Mathlib.Omega.{arith}
use lib.Dec.{ltb}
use lib.ListN.{length, get_or, take, drop, length-append}
use lib.Seq.{take_at, drop_at, get_or-drop, length-take-le}
use borrow.Author.Tests.{le-ltb, le-leb, eq-eqb}
use Rattle.laws.proofs.Flags.{both}
use Rattle.laws.proofs.Same.{same_refl}
use Rattle.primitives.specs.Standards.{SHA256, HMAC}
use Rattle.primitives.proofs.Laws.{length-SHA256, length-HMAC}
use Rattle.sizes.specs.Sizes.{tag_size, answer_room}
use Rattle.wire.specs.Signing.{version, request_tag, answer_tag, signed, key_proof}
use Rattle.wire.specs.Shape.{Request, parsed, size_legal, shape_legal}
use Rattle.unit.specs.declared.TagUnit.{TagUnit}
use Rattle.unit.specs.WellFormed.{well_formed}
use Rattle.unit.specs.Change.{spent}
use Rattle.unit.specs.Outcome.{Outcome, formed, answering}
use Rattle.authentication.specs.Judgement.{Judgement, tagged, concluded}
use Rattle.handlers.specs.ById.{by_id}
use Rattle.requests.specs.Write.{needs_key, judged, written}
use Rattle.tag.specs.Calls.{own, guarded, call, act}
use Rattle.demanded_answers.specs.History.{step, sends}
use Rattle.demanded_answers.specs.Spelled.{NoBitOutside}
use Rattle.demanded_answers.specs.Accepted.{Open}
use Rattle.demanded_answers.proofs.MaskBits.{bits_inside}

-- tags and proofs have eight bytes
eight_first : (digest : List ℕ) → length digest ≡ 32 → length (take 8 digest) ≡ 8
eight_first digest n = length-take-le 8 digest (omega arith)

pub length_request_tag : (key nonce : List ℕ) (id size : ℕ) (additional : List ℕ) → length (request_tag key nonce id size additional) ≡ 8
unfolding request_tag
length_request_tag key nonce id size additional =
    let text : List ℕ = version ∷ nonce ++ (id ∷ size ∷ additional) in
    eight_first (HMAC key text) (length-HMAC key text)

pub length_answer_tag : (key nonce : List ℕ) (id : ℕ) («data» : List ℕ) → length (answer_tag key nonce id «data») ≡ 8
unfolding answer_tag
length_answer_tag key nonce id «data» =
    let text : List ℕ = version ∷ nonce ++ (id ∷ (tag_size + length «data») ∷ «data» ++ (0x01 ∷ [])) in
    eight_first (HMAC key text) (length-HMAC key text)

-- the data of an answer, behind ID, length and tag
pub data_signed : (key nonce : List ℕ) (id : ℕ) («data» : List ℕ) → drop 10 (signed key nonce id «data») ≡ «data»
unfolding signed
data_signed key nonce id «data» = drop_at (answer_tag key nonce id «data») «data» 8 (length_answer_tag key nonce id «data»)

-- and its first byte: of a ring notice the status
pub status_signed : (key nonce : List ℕ) (id status : ℕ) («data» : List ℕ) → get_or (signed key nonce id (status ∷ «data»)) 10 0 ≡ status
status_signed key nonce id status «data» =
    sym (get_or-drop 10 (signed key nonce id (status ∷ «data»)) 0 0) ∙ ap (λ (l : List ℕ). get_or l 0 0) (data_signed key nonce id (status ∷ «data»))

pub length_key_proof : (identity nonce : List ℕ) → length (key_proof identity nonce) ≡ 8
unfolding key_proof
length_key_proof identity nonce = eight_first (SHA256 (identity ++ nonce)) (length-SHA256 (identity ++ nonce))

-- the parts of a write, as a request; its length byte counts the tag and the additional data
abbrev pub request_of : ℕ → ℕ → List ℕ → List ℕ → Request
request_of id size mark additional = record { id = id; size = size; tag = mark; additional = additional }

abbrev pub bytes_of : ℕ → ℕ → List ℕ → List ℕ → List ℕ
bytes_of id size mark additional = id ∷ size ∷ mark ++ additional

module _ (id size : ℕ) (mark additional : List ℕ) (eight : length mark ≡ 8) (sized : tag_size + length additional ≡ size) where
  pub parts : parsed (bytes_of id size mark additional) ≡ request_of id size mark additional
  unfolding parsed
  parts = rw (take_at mark additional 8 eight, drop_at mark additional 8 eight)

  pub shape : size_legal id size ≡ true → shape_legal (bytes_of id size mark additional) ≡ true
  unfolding shape_legal
  shape legal =
      let all : length (mark ++ additional) ≡ length mark + length additional = length-append mark additional in
      both (le-leb 2 (length (bytes_of id size mark additional)) (omega arith))
      (both legal (eq-eqb (length (bytes_of id size mark additional)) (size + 2) (omega arith)))

-- "Order: 6, 2, then the call's own": where there is room, a well-formed unit passes both
pub opened : (u : TagUnit) (room : ℕ) (o : Outcome) → well_formed u ≡ true → answer_room ≤ room → answering room u o ≡ o
unfolding answering formed
opened u room o right fits = rw (le-ltb room answer_room fits, right)

-- and for a write 1: a lent mask without a bit outside passes
pub reach_passes : (u : TagUnit) (w : List ℕ) (reach : ℕ) → NoBitOutside u.settings.components reach
    → written u w reach ≡ concluded (spent u) (judged u w reach)
unfolding written
reach_passes u w reach within = rw (bits_inside reach u.settings.components within)

pub judged_as : {u : TagUnit} {reach room : ℕ} {j : Judgement} (id size : ℕ) (mark additional : List ℕ) → length mark ≡ 8
    → tag_size + length additional ≡ size → Open u reach room → size_legal id size ≡ true → (ltb id needs_key || u.identity.held) ≡ true
    → by_id (spent u) (request_of id size mark additional) reach ≡ j
    → step (sends (bytes_of id size mark additional) reach room) u ≡ concluded (spent u) j
unfolding act call guarded own judged
judged_as {u} {reach} {room} id size mark additional eight sized ready legal there is =
    opened u room (written u (bytes_of id size mark additional) reach) ready.formed ready.fits
    ∙ reach_passes u (bytes_of id size mark additional) reach ready.within
    ∙ rw (shape id size mark additional eight sized legal, ready.live, parts id size mark additional eight sized, there, is)

-- the tag that a key makes is the one that it is held to
pub own_tag : (key nonce : List ℕ) (id size : ℕ) (additional : List ℕ)
    → tagged key nonce (request_of id size (request_tag key nonce id size additional) additional) ≡ true
unfolding tagged
own_tag key nonce id size additional = same_refl (request_tag key nonce id size additional)
