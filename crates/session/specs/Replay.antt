-- "Replay file": the replay as a function from the bytes of the file to the bytes printed.
use Rattle.std.specs.Prelude.{ℕ, suc, Bool, true, false, cond, ◌&&◌, List, [], ◌∷◌, ◌++◌, leb, eqb, length, ℤ}
use Rattle.laws.specs.Answer.{Result, gives, refuses}
use Rattle.unit.specs.declared.TagUnit.{TagUnit}
use Rattle.unit.specs.Outcome.{Outcome}
use Rattle.unit.specs.Change.{no_unit}
use Rattle.settings_calls.specs.Settings.{new_unit}
use Rattle.notation.specs.Text.{newline}
use Rattle.events.specs.Event.{performed, printed}
use Rattle.printing.specs.Texts.{refused_text, malformed_text}
use Rattle.lines.specs.Lines.{Expected, power, event, inside, Line, follows, brings, sets_up, breaks, taken}

-- "at most 256 bytes a line and 999,999 lines"
abbrev pub longest_line : ℕ
longest_line = 256

abbrev pub most_lines : ℕ
most_lines = 999999

-- the line with this number, unless it is over the limits
unfoldable pub judged : Expected → ℕ → List ℕ → Line
judged e n l = cond (leb (length l) longest_line && leb n most_lines) (taken e l) breaks

-- "Refused settings end the run after that answer"; accepted ones print nothing
abbrev pub begun : Outcome → Result → (Expected → TagUnit → List ℕ) → List ℕ
begun o (gives answer) go = go event o.unit
begun o (refuses n) go = refused_text n

-- what a line does: `go` is the rest of the run. "The first line that breaks this .. ends the run; earlier answers stand"
unfoldable pub done : Line → ℕ → TagUnit → (Expected → TagUnit → List ℕ) → List ℕ
done (follows a) n u go = go (inside a) u
done (brings e) n u go = printed e (performed e u) (performed e u).result ++ go event (performed e u).unit
done (sets_up p c s) n u go = begun (new_unit p c s) (new_unit p c s).result go
done breaks n u go = malformed_text n

-- the end of the file is right only where an event could begin, with nothing after the last newline
abbrev pub may_end : Expected → List ℕ → Bool
may_end event rest = eqb (length rest) 0
may_end (inside a) rest = false

-- the run over the closed lines, from the line with number n on, and what stands after the last newline: "or one missing in the settings
-- or an event"
unfoldable pub run : Expected → ℕ → TagUnit → List (List ℕ) → List ℕ → List ℕ
run e n u [] rest = cond (may_end e rest) [] (malformed_text n)
run e n u (l ∷ ls) rest = done (judged e n l) n u (λ e' u'. run e' (suc n) u' ls rest)

-- "each closed by an uncounted newline": the closed lines, and what stands after the last newline
abbrev pub File : Type 0
File = List (List ℕ) × List ℕ

abbrev pub onto : ℕ → File → File
onto b f = pushed b f.0 f.1
  where
    pushed : ℕ → List (List ℕ) → List ℕ → File
    pushed c [] rest = ([], c ∷ rest)
    pushed c (l ∷ ls) rest = ((c ∷ l) ∷ ls, rest)

unfoldable pub lines : List ℕ → File
lines [] = ([], [])
lines (b ∷ bs) = cond (eqb b newline) ([] ∷ (lines bs).0, (lines bs).1) (onto b (lines bs))

unfoldable pub replay : List ℕ → List ℕ
replay input = run (inside power) 1 no_unit (lines input).0 (lines input).1
