-- The judgement of a request: accepted, with the unit after it and the answer, or refused by number. And the choices by which the nine
-- requests are judged, on the unit with its nonce spent.
use Rattle.std.specs.Prelude.{ℕ, Bool, cond, List}
use Rattle.std.proofs.Math.Option.{Option, some, none}
use Rattle.laws.specs.Bytes.{same_bytes}
use Rattle.tables.specs.Rows.{first_that}
use Rattle.wire.specs.Signing.{request_tag, key_proof, signed}
use Rattle.wire.specs.Shape.{Request}
use Rattle.unit.specs.declared.TagUnit.{TagUnit}
use Rattle.unit.specs.Change.{key_in_force}
use Rattle.unit.specs.Outcome.{Outcome, giving, refusing}
use Rattle.unit.specs.WellFormed.{held_keys, owner_key}

pub data Judgement : Type 0 where
  accepts : TagUnit → List ℕ → Judgement
  rejects : ℕ → Judgement

-- "0x80 not authenticated", "0x81 invalid value or byte count", "0x82 no user consent"
abbrev pub not_authenticated : Judgement
not_authenticated = rejects 0x80

abbrev pub invalid_value : Judgement
invalid_value = rejects 0x81

abbrev pub no_consent : Judgement
no_consent = rejects 0x82

-- go on where a check holds; else the check's refusal
abbrev pub unless : Bool → Judgement → Judgement → Judgement
unless ok refusal next = cond ok next refusal

-- judge with a key; "with no owner", or with no key that matches, 0x80
abbrev pub under : Option (List ℕ) → (List ℕ → Judgement) → Judgement
under (some key) judge = judge key
under none judge = not_authenticated

-- the nonce that a request is judged with, and that signs its answer
abbrev pub last_nonce : TagUnit → List ℕ
last_nonce u = u.nonces.newest

-- whether the request's tag is the one that this key makes with this nonce
unfoldable pub tagged : List ℕ → List ℕ → Request → Bool
tagged key nonce q = same_bytes (request_tag key nonce q.id q.size q.additional) q.tag

-- whether bytes prove the identity key that is held
abbrev pub proves : TagUnit → List ℕ → Bool
proves u proof = same_bytes (key_proof (key_in_force u) (last_nonce u)) proof

-- "HMAC(key of the request, .. ID": the answer to a request, with the key that it was judged with
abbrev pub answered : List ℕ → TagUnit → Request → List ℕ → List ℕ
answered key u q «data» = signed key (last_nonce u) q.id «data»

-- "any account key; the first held key whose tag matches .. is used"; "The order of trial becomes most recently used first"
unfoldable pub used_key : TagUnit → Request → Option (List ℕ)
used_key u q = first_that (λ k. tagged k (last_nonce u) q) (held_keys u.accounts)

-- "owner key": the owner's, if there is an owner and that key signed the request
abbrev pub only_if : (List ℕ → Bool) → Option (List ℕ) → Option (List ℕ)
only_if p none = none
only_if p (some key) = cond (p key) (some key) none

unfoldable pub signed_by_owner : TagUnit → Request → Option (List ℕ)
signed_by_owner u q = only_if (λ k. tagged k (last_nonce u) q) (owner_key u.accounts)

-- an accepted request gives the unit after it and its answer; a refused one leaves the unit that it was judged on
abbrev pub concluded : TagUnit → Judgement → Outcome
concluded u (accepts after answer) = giving answer after
concluded u (rejects n) = refusing n u
