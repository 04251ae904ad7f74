-- What `signers`, `answering` and the handlers of the nine requests promise, over the types of the code.
use Rattle.std.specs.Prelude.{ℕ, ◌≤◌, ◌<◌, ◌+◌, ◌≡◌, true, Bool, cond, List, [], length, take, get_or, Option as Perhaps, Some, None, Result, Ok, Err}
use Rattle.std.proofs.Math.Option.{Option, some, none}
use Rattle.sizes.specs.Sizes.{tag_size}
use Rattle.primitives.specs.Standards.{keyed_by}
use Rattle.hmac.specs.declared.Keyed.{Keyed}
use Rattle.wire.specs.Signing.{signed}
use Rattle.unit.specs.declared.TagUnit.{TagUnit}
use Rattle.unit.specs.declared.Refusal.{Refusal}
use Rattle.unit.specs.Refusals.{refusal_number}
use Rattle.unit.specs.WellFormed.{well_formed}
use Rattle.authentication.specs.declared.Signer.{Signer}
use Rattle.authentication.specs.declared.Verdict.{Verdict}
use Rattle.authentication.specs.Judgement.{Judgement, accepts, rejects, last_nonce}

-- a place in the key table, if one was found
abbrev pub Found : Type 0
Found = Perhaps ℕ

-- a place that was found stands for the row there
abbrev pub row_at : Found → List (List ℕ) → Option (List ℕ)
row_at (Some p) l = some (get_or l p [])
row_at None l = none

abbrev pub Within : Found → ℕ → Type 0
Within (Some p) n = p < n
Within None n = Unit

-- a search found this row, if it is one
pub record Finds (row : Option (List ℕ)) (l : List (List ℕ)) (f : Found) : Type 0 where
  pub row_is : row ≡ row_at f l
  pub within : Within f (length l)

-- a key that was tried: made ready where it signed the request, and else none
pub record Tries (key : List ℕ) (signs : Bool) (k : Perhaps Keyed) : Type 0 where
  pub made_is : k ≡ cond signs (Some (keyed_by key)) None

-- the account key that signed a request, if one did
abbrev pub Identified : Type 0
Identified = Perhaps Signer

-- the place of the key that was found
abbrev pub place_in : Identified → Found
place_in (Some s) = Some s.place
place_in None = None

abbrev pub ReadyFrom : List (List ℕ) → Identified → Type 0
ReadyFrom l (Some s) = s.key ≡ keyed_by (get_or l s.place [])
ReadyFrom l None = Unit

-- a search found this row, if it is one, and made the key ready from it
pub record Identifies (row : Option (List ℕ)) (l : List (List ℕ)) (s : Identified) : Type 0 where
  pub finds : Finds row l (place_in s)
  pub ready_from : ReadyFrom l s

-- A request is judged on a well-formed unit, with additional data of the length that its shape says
pub record Ready (u : TagUnit) (size : ℕ) (additional : List ℕ) : Type 0 where
  pub formed : well_formed u ≡ true
  pub sized : tag_size + length additional ≡ size

-- the code's end of a request: granted with a verdict, or denied
abbrev pub Ruling : Type 0
Ruling = Result Verdict Refusal

-- accepted: the unit after it, and its data signed under the key whose ready form the verdict holds, where the answer has this ID
pub record Accepts (u : TagUnit) (id : ℕ) (j : Judgement) (v : Verdict) : Type 0 where
  pub key : List ℕ
  pub key_is : v.key ≡ keyed_by key
  pub accepts_so : j ≡ accepts v.unit (signed key (last_nonce u) id (take v.size v.payload))

-- the judgement that a ruling stands for
abbrev pub Rules : TagUnit → ℕ → Judgement → Ruling → Type 0
Rules u id j (Err x) = j ≡ rejects (refusal_number x)
Rules u id j (Ok v) = Accepts u id j v

-- a handler judged a request so
pub record Judges (u : TagUnit) (id : ℕ) (j : Judgement) (r : Ruling) : Type 0 where
  pub judged_so : Rules u id j r

pub record Grants (unit : TagUnit) (key : Keyed) (payload : List ℕ) (v : Verdict) : Type 0 where
  pub unit_is : v.unit ≡ unit
  pub key_is : v.key ≡ key
  pub data_are : take v.size v.payload ≡ payload
