-- Acts and histories. The step of an act is the very definition that the promise of each call in the crate `tag` cites, so what is said of
-- a history is said of the code.
use Rattle.std.specs.Prelude.{ℕ, ◌<◌, ◌≡◌, List, [], ◌∷◌, get_or}
use Rattle.laws.specs.Answer.{gives}
use Rattle.unit.specs.declared.TagUnit.{TagUnit}
use Rattle.unit.specs.Outcome.{Outcome}
use Rattle.tag.specs.Calls.{Written, Call, read, write, button, pairing, battery, account_key, disconnect, frame, Act, calls, waits, act}

-- what an act does on a unit
abbrev pub step : Act → TagUnit → Outcome
step = act

-- an act that succeeded
abbrev pub Succeeds : Act → TagUnit → Type 0
Succeeds a u = (answer : List ℕ) × ((step a u).result ≡ gives answer)

-- the unit after a list of acts
unfoldable pub after : List Act → TagUnit → TagUnit
after [] u = u
after (a ∷ l) u = after l (step a u).unit

-- a write; and one of these bytes, with this mask of reachable parts
abbrev pub writes : Written → ℕ → Act
writes w room = calls (write w) room

abbrev pub sends : List ℕ → ℕ → ℕ → Act
sends bytes reach room = writes (record { bytes = bytes; reach = reach }) room

-- lists of bytes, as every slice of the code is
abbrev pub Bytes : List ℕ → Type 0
Bytes bs = (i : ℕ) → get_or bs i 0 < 256

-- the bytes that a call is handed
abbrev pub handed : Call → List ℕ
handed (read nonce) = nonce
handed (write w) = w.bytes
handed button = []
handed (pairing on) = []
handed (battery level) = []
handed (account_key key) = key
handed disconnect = []
handed frame = []

abbrev pub OfBytes : Act → Type 0
OfBytes (calls c room) = Bytes (handed c)
OfBytes (waits n room) = Unit {0}

abbrev pub AllOfBytes : List Act → Type 0
AllOfBytes [] = Unit {0}
AllOfBytes (a ∷ l) = OfBytes a × AllOfBytes l
