-- The replay fed in pieces: a state that is fed one byte after another and prints as it goes. A law (proofs) joins it to `replay`.
use Rattle.std.specs.Prelude.{ℕ, suc, ◌+◌, ◌≡◌, cond, List, [], ◌∷◌, ◌++◌, ltb, eqb, length}
use Rattle.laws.specs.Answer.{Result, gives, refuses}
use Rattle.unit.specs.declared.TagUnit.{TagUnit}
use Rattle.unit.specs.Outcome.{Outcome}
use Rattle.unit.specs.Change.{no_unit}
use Rattle.settings_calls.specs.Settings.{new_unit}
use Rattle.notation.specs.Text.{newline}
use Rattle.session.specs.Replay.{judged, longest_line, may_end, replay}
use Rattle.events.specs.Event.{performed, printed}
use Rattle.printing.specs.Texts.{refused_text, malformed_text}
use Rattle.lines.specs.Lines.{Expected, power, event, inside, Line, follows, brings, sets_up, breaks}

-- A run that goes on, with what is expected, the number of the line that is being read, its bytes so far, and the unit; or one that ended
pub data State : Type 0 where
  reading : (e : Expected) (n : ℕ) (u : TagUnit) (part : List ℕ) → State
  ended : State

-- the state after some bytes, and what was printed
pub record Fed : Type 0 where
  pub state : State
  pub printed : List ℕ

abbrev pub fed_to : State → List ℕ → Fed
fed_to s out = record { state = s; printed = out }

abbrev pub beginning : Outcome → Result → ℕ → Fed
beginning o (gives answer) n = fed_to (reading event (suc n) o.unit []) []
beginning o (refuses k) n = fed_to ended (refused_text k)

-- a line is closed
unfoldable pub closed : Line → ℕ → TagUnit → Fed
closed (follows a) n u = fed_to (reading (inside a) (suc n) u []) []
closed (brings e) n u = fed_to (reading event (suc n) (performed e u).unit []) (printed e (performed e u) (performed e u).result)
closed (sets_up p c s) n u = beginning (new_unit p c s) (new_unit p c s).result n
closed breaks n u = fed_to ended (malformed_text n)

-- one byte; a line that has grown too long is malformed at once
unfoldable pub byte : ℕ → State → Fed
byte b ended = fed_to ended []
byte b (reading e n u part) =
    cond (eqb b newline) (closed (judged e n part) n u)
    (cond (ltb (length part) longest_line) (fed_to (reading e n u (part ++ (b ∷ []))) []) (fed_to ended (malformed_text n)))

unfoldable pub fed : List ℕ → State → Fed
fed [] s = fed_to s []
fed (b ∷ bs) s =
    fed_to (fed bs (byte b s).state).state ((byte b s).printed ++ (fed bs (byte b s).state).printed)

-- the end of the input
unfoldable pub finish : State → List ℕ
finish ended = []
finish (reading e n u part) = cond (may_end e part) [] (malformed_text n)

abbrev pub first : State
first = reading (inside power) 1 no_unit []

-- what feeding these pieces, one after another, prints in total
unfoldable pub in_pieces : List (List ℕ) → State → List ℕ
in_pieces [] s = finish s
in_pieces (p ∷ ps) s = (fed p s).printed ++ in_pieces ps (fed p s).state

unfoldable pub whole : List (List ℕ) → List ℕ
whole [] = []
whole (p ∷ ps) = p ++ whole ps

-- "reading in any pieces never changes what is printed"
abbrev pub AnyPieces : Type 0
AnyPieces = (ps : List (List ℕ)) → in_pieces ps first ≡ replay (whole ps)
