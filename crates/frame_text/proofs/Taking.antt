-- Taking an input byte by byte prints what the whole of it prints: of a line that is too long, nothing more needs to be known.
use Prim.Native.Nat.{ℕ, ◌+◌}
use mathlib.Core.Path.{◌≡◌, refl}
use mathlib.Core.Bool.{Bool, true, false, cond}
use mathlib.Core.List.{List, [], ◌∷◌, ◌++◌}
use Rattle.std.specs.Prelude.{Option, None, Some}
use native.Mathlib.Omega.{arith}
use lib.Dec.{leb, ltb, eqb}
use lib.ListN.{length, length-append}
use borrow.Author.Tests.{le-leb, lt-leb, leb-false, ltb-true, ltb-false, ne_eqb}
use Rattle.notation.specs.Text.{newline}
use Rattle.frame_text.specs.Answers.{line_text, printed_from}
use Rattle.frame_text.specs.Taking.{longer, closed, after, says, ends, taken, AllPrinted}

-- what is known of a line
abbrev known : List ℕ → Option (List ℕ)
known line = cond (leb (length line) 256) (Some line) None

known_longer : (line : List ℕ) (b : ℕ) → longer (known line) b ≡ known (line ++ (b ∷ []))
known_longer line b = go (leb (length line) 256) refl (ltb (length line) 256) refl
  where
    more : length (line ++ (b ∷ [])) ≡ length line + 1
    more = length-append line (b ∷ [])

    go : (s : Bool) → leb (length line) 256 ≡ s → (t : Bool) → ltb (length line) 256 ≡ t
        → longer (cond s (Some line) None) b ≡ known (line ++ (b ∷ []))
    go true e true f = rw (f, le-leb (length (line ++ (b ∷ []))) 256 (omega (arith, more, ltb-true (length line) 256 f)))
    go true e false f = rw (f, lt-leb (length (line ++ (b ∷ []))) 256 (omega (arith, more, ltb-false (length line) 256 f)))
    go false e t f = rw (lt-leb (length (line ++ (b ∷ []))) 256 (omega (arith, more, leb-false (length line) 256 e)))

known_closed : (line : List ℕ) → closed (known line) ≡ line_text line
unfolding line_text
known_closed line = go (leb (length line) 256) refl
  where
    go : (s : Bool) → leb (length line) 256 ≡ s → closed (cond s (Some line) None) ≡ line_text line
    go true e = refl
    go false e = rw e

known_ends : (line : List ℕ) → ends (known line) ≡ cond (eqb (length line) 0) [] (line_text line)
unfolding ends line_text
known_ends line = go (leb (length line) 256) refl
  where
    go : (s : Bool) → leb (length line) 256 ≡ s → ends (cond s (Some line) None) ≡ cond (eqb (length line) 0) [] (line_text line)
    go true e = refl
    go false e = rw (ne_eqb (length line) 0 (λ z. omega (arith, leb-false (length line) 256 e)), e)

taken_from : (input line : List ℕ) → taken (known line) input ≡ printed_from line input
unfolding taken printed_from after says
taken_from [] line = known_ends line
taken_from (b ∷ bs) line = go (eqb b newline) (taken_from bs []) (taken_from bs (line ++ (b ∷ [])))
  where
    go : (s : Bool) → taken (known []) bs ≡ printed_from [] bs → taken (known (line ++ (b ∷ []))) bs ≡ printed_from (line ++ (b ∷ [])) bs
        → cond s (closed (known line)) [] ++ taken (cond s (Some []) (longer (known line) b)) bs
        ≡ cond s (line_text line ++ printed_from [] bs) (printed_from (line ++ (b ∷ [])) bs)
    go true here there = rw (known_closed line, ← here)
    go false here there = rw (known_longer line b) there

pub all_printed : AllPrinted
all_printed input = taken_from input []
