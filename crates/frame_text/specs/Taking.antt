-- The same byte by byte, as the calls take it: what is known of the line so far, and what each byte prints. `AllPrinted` joins the two (proofs/Taking).
use Rattle.std.specs.Prelude.{ℕ, ◌≡◌, cond, List, [], ◌∷◌, ◌++◌, leb, ltb, eqb, length, take, replicate}
use Rattle.std.specs.Prelude.{Option, None, Some}
use Rattle.laws.specs.Answer.{Wrote}
use Rattle.notation.specs.Text.{newline}
use Rattle.frame_text.specs.Answers.{longest_line, malformed_text, line_text, printed}
use Rattle.frame_text.specs.declared.Line.{Line}
use Rattle.frame_text.specs.declared.Text.{Text}
use Rattle.frame_text.specs.declared.Taken.{Taken}

-- the line so far, or that it is too long already
abbrev pub so_far : Line → Option (List ℕ)
so_far l = cond (leb l.count longest_line) (Some (take l.count l.bytes)) None

abbrev pub longer : Option (List ℕ) → ℕ → Option (List ℕ)
longer None b = None
longer (Some line) b = cond (ltb (length line) longest_line) (Some (line ++ (b ∷ []))) None

abbrev pub closed : Option (List ℕ) → List ℕ
closed None = malformed_text
closed (Some line) = line_text line

-- a byte: the line after it, and what it prints; and what the end of the input prints
unfoldable pub after : Option (List ℕ) → ℕ → Option (List ℕ)
after line b = cond (eqb b newline) (Some []) (longer line b)

unfoldable pub says : Option (List ℕ) → ℕ → List ℕ
says line b = cond (eqb b newline) (closed line) []

unfoldable pub ends : Option (List ℕ) → List ℕ
ends None = malformed_text
ends (Some line) = cond (eqb (length line) 0) [] (line_text line)

-- what taking all bytes of an input prints in total
unfoldable pub taken : Option (List ℕ) → List ℕ → List ℕ
taken line [] = ends line
taken line (b ∷ bs) = says line b ++ taken (after line b) bs

abbrev pub AllPrinted : Type 0
AllPrinted = (input : List ℕ) → taken (Some []) input ≡ printed input

-- a text stands first in a room of zeros
abbrev pub text_room : ℕ
text_room = 96

abbrev pub Says : List ℕ → Text → Type 0
Says text t = Wrote text t.count (replicate text_room 0) t.bytes

pub record Takes (line : Line) (b : ℕ) (t : Taken) : Type 0 where
  pub line_is : so_far t.line ≡ after (so_far line) b
  pub text_is : Says (says (so_far line) b) t.text
