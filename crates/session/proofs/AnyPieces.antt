-- Feeding the input in any pieces prints what `replay` gives for the whole. The idea: a state that reads a part of a line and then gets
-- more bytes prints what the run over the lines of the part and those bytes gives; the part has no newline and is not too long.
use Prim.Native.Nat.{ℕ, suc, ◌+◌, ◌≤◌, ◌<◌, zero-le}
use mathlib.Core.Path.{◌≡◌, refl, sym, ◌∙◌}
use mathlib.Core.Bool.{Bool, true, false, cond}
use mathlib.Core.List.{List, [], ◌∷◌, ◌++◌, append_assoc, append-nil}
use native.Mathlib.Omega.{arith}
use lib.Dec.{eqb, ltb}
use lib.ListN.{length, length-append}
use borrow.Author.Tests.{ltb-true, ltb-false, lt-leb, ne_eqb}
use Rattle.laws.specs.Answer.{Result, gives, refuses}
use Rattle.unit.specs.declared.TagUnit.{TagUnit}
use Rattle.unit.specs.Outcome.{Outcome}
use Rattle.settings_calls.specs.Settings.{new_unit}
use Rattle.notation.specs.Text.{newline}
use Rattle.session.specs.Replay.{judged, done, run, lines, File, may_end, longest_line, replay, begun, onto}
use Rattle.session.specs.Feeding.{State, reading, ended, Fed, fed, fed_to, byte, closed, finish, first, in_pieces, whole, AnyPieces, beginning}
use Rattle.events.specs.Event.{performed, printed}
use Rattle.printing.specs.Texts.{refused_text, malformed_text}
use Rattle.lines.specs.Lines.{Expected, Line, follows, brings, sets_up, breaks, event, inside}

-- Feeding goes over append
pub fed_append : (xs ys : List ℕ) (s : State)
    → fed (xs ++ ys) s ≡ fed_to (fed ys (fed xs s).state).state ((fed xs s).printed ++ (fed ys (fed xs s).state).printed)
unfolding fed
fed_append [] ys s = refl
fed_append (x ∷ xs) ys s = rw (fed_append xs ys (byte x s).state, append_assoc)

pub fed_ended : (bs : List ℕ) → fed bs ended ≡ fed_to ended []
unfolding fed byte
fed_ended [] = refl
fed_ended (b ∷ bs) = rw (fed_ended bs)

-- The lines of a part without a newline and more bytes: the part stands before the first line, or before the rest
unfoldable pub clean : List ℕ → Type 0
clean [] = Unit
clean (b ∷ bs) = (eqb b newline ≡ false) × clean bs

pub clean_more : (q : List ℕ) (b : ℕ) → clean q → eqb b newline ≡ false → clean (q ++ (b ∷ []))
unfolding clean
clean_more [] b c h = (h, c)
clean_more (x ∷ q) b c h = (c.0, clean_more q b c.1 h)

before : List ℕ → List (List ℕ) → List ℕ → File
before q [] rest = ([], q ++ rest)
before q (l ∷ ls) rest = ((q ++ l) ∷ ls, rest)

before_none : (ls : List (List ℕ)) (r : List ℕ) → ◌≡◌ {A = File} (ls, r) (before [] ls r)
unfolding before
before_none [] r = refl
before_none (l ∷ ls) r = refl

before_one : (x : ℕ) (q : List ℕ) (ls : List (List ℕ)) (r : List ℕ) → onto x (before q ls r) ≡ before (x ∷ q) ls r
unfolding before
before_one x q [] r = refl
before_one x q (l ∷ ls) r = refl

lines_before : (q bs : List ℕ) → clean q → lines (q ++ bs) ≡ before q (lines bs).0 (lines bs).1
unfolding clean lines
lines_before [] bs c = before_none (lines bs).0 (lines bs).1
lines_before (x ∷ q) bs c = rw (c.0, lines_before q bs c.1) (before_one x q (lines bs).0 (lines bs).1)

lines_closed : (q : List ℕ) (b : ℕ) (bs : List ℕ) → clean q → eqb b newline ≡ true → lines (q ++ (b ∷ bs)) ≡ (q ∷ (lines bs).0, (lines bs).1)
unfolding lines before
lines_closed q b bs c h = lines_before q (b ∷ bs) c ∙ rw h (rw append-nil)

lines_open : (q : List ℕ) → clean q → lines (q ++ []) ≡ ([], q)
unfolding lines before
lines_open q c = lines_before q [] c ∙ rw append-nil

-- the run over a file
abbrev over : Expected → ℕ → TagUnit → File → List ℕ
over e n u f = run e n u f.0 f.1

-- what is printed from a state on, by the lines
abbrev onward : State → List ℕ → List ℕ
onward ended bs = []
onward (reading e n u part) bs = over e n u (lines (part ++ bs))

-- a part that a state may hold
abbrev Bounded : State → Type 0
Bounded ended = Unit
Bounded (reading e n u part) = clean part × (length part ≤ longest_line)

no_end : (e : Expected) (q r : List ℕ) → longest_line < length q → may_end e (q ++ r) ≡ false
no_end event [] r h = absurd (omega arith)
no_end event (b ∷ q) r h = ne_eqb (length ((b ∷ q) ++ r)) 0 (λ e. omega (arith, e))
no_end (inside a) q r h = refl

-- a line that is too long is malformed, closed or not
too_long : (e : Expected) (n : ℕ) (u : TagUnit) (q : List ℕ) (ls : List (List ℕ)) (r : List ℕ) → longest_line < length q
    → over e n u (before q ls r) ≡ malformed_text n
unfolding before run judged done
too_long e n u q [] r h = rw (no_end e q r h)
too_long e n u q (l ∷ ls) r h =
    let long : length (q ++ l) ≡ length q + length l = length-append q l in
    rw (lt-leb (length (q ++ l)) longest_line (omega arith))

-- total of a feeding: what was printed and what the end of the input prints
abbrev total : Fed → List ℕ → List ℕ
total f bs = f.printed ++ ((fed bs f.state).printed ++ finish (fed bs f.state).state)

abbrev Onward : List ℕ → Type 0
Onward bs = (s : State) → Bounded s → (fed bs s).printed ++ finish (fed bs s).state ≡ onward s bs

nothing_more : (x bs : List ℕ) → x ++ ((fed bs ended).printed ++ finish (fed bs ended).state) ≡ x
unfolding finish
nothing_more x bs = rw (fed_ended bs, append-nil)

-- a closed line goes on as the run does
closing : (bs : List ℕ) → Onward bs → (l : Line) (n : ℕ) (u : TagUnit)
    → total (closed l n u) bs ≡ done l n u (λ e' u'. over e' (suc n) u' (lines bs))
unfolding closed done clean
closing bs more (follows a) n u = more (reading (inside a) (suc n) u []) (tt, zero-le)
closing bs more (brings e) n u = rw (more (reading event (suc n) (performed e u).unit []) (tt, zero-le))
closing bs more (sets_up p c s) n u = started (new_unit p c s) (new_unit p c s).result
  where
    started : (o : Outcome) (r : Result) → total (beginning o r n) bs ≡ begun o r (λ e' u'. over e' (suc n) u' (lines bs))
    started o (gives answer) = more (reading event (suc n) o.unit []) (tt, zero-le)
    started o (refuses k) = nothing_more (refused_text k) bs
closing bs more breaks n u = nothing_more (malformed_text n) bs

-- the state after a byte that closes no line
growing : (b : ℕ) (bs : List ℕ) → Onward bs → (e : Expected) (n : ℕ) (u : TagUnit) (part : List ℕ) → Bounded (reading e n u part)
    → eqb b newline ≡ false → (t : Bool) → ltb (length part) longest_line ≡ t
    → total (cond t (fed_to (reading e n u (part ++ (b ∷ []))) []) (fed_to ended (malformed_text n))) bs ≡ onward (reading e n u part) (b ∷ bs)
growing b bs more e n u part bounded h true t =
    let short : length part < longest_line = ltb-true (length part) longest_line t in
    let size : length (part ++ (b ∷ [])) ≡ length part + 1 = length-append part (b ∷ []) in
    more (reading e n u (part ++ (b ∷ []))) (clean_more part b bounded.0 h, omega arith)
    ∙ rw append_assoc
growing b bs more e n u part bounded h false t =
    let long : longest_line ≤ length part = ltb-false (length part) longest_line t in
    let size : length (part ++ (b ∷ [])) ≡ length part + 1 = length-append part (b ∷ []) in
    nothing_more (malformed_text n) bs
    ∙ sym (rw (← append_assoc part (b ∷ []) bs, lines_before (part ++ (b ∷ [])) bs (clean_more part b bounded.0 h))
    (too_long e n u (part ++ (b ∷ [])) (lines bs).0 (lines bs).1 (omega arith)))

-- one byte more
step : (b : ℕ) (bs : List ℕ) → Onward bs → (e : Expected) (n : ℕ) (u : TagUnit) (part : List ℕ) → Bounded (reading e n u part)
    → (t : Bool) → eqb b newline ≡ t
    → total (byte b (reading e n u part)) bs ≡ onward (reading e n u part) (b ∷ bs)
unfolding byte run
step b bs more e n u part bounded true h =
    rw (h, lines_closed part b bs bounded.0 h) (closing bs more (judged e n part) n u)
step b bs more e n u part bounded false h = rw h (growing b bs more e n u part bounded h (ltb (length part) longest_line) refl)

goes_on : (bs : List ℕ) → Onward bs
unfolding fed finish run
goes_on [] ended bounded = refl
goes_on [] (reading e n u part) bounded = rw (lines_open part bounded.0)
goes_on (b ∷ bs) ended bounded = nothing_more [] (b ∷ bs)
goes_on (b ∷ bs) (reading e n u part) bounded =
    append_assoc (byte b (reading e n u part)).printed _ _ ∙ step b bs (goes_on bs) e n u part bounded (eqb b newline) refl

total_is : (ps : List (List ℕ)) (s : State) → in_pieces ps s ≡ (fed (whole ps) s).printed ++ finish (fed (whole ps) s).state
unfolding in_pieces whole fed
total_is [] s = refl
total_is (p ∷ ps) s = rw (fed_append p (whole ps) s, total_is ps (fed p s).state, append_assoc)

pub any_pieces : AnyPieces
unfolding replay clean
any_pieces ps = total_is ps first ∙ goes_on (whole ps) first (tt, zero-le)
