-- A piece that is taken byte by byte: what holds after some bytes, what one more does, and that an ended run takes the rest.
use Prim.Native.Nat.{ℕ, suc, ◌+◌, ◌-◌, ◌≤◌, ◌<◌}
use mathlib.Core.Path.{◌≡◌, refl, sym, ap, ◌∙◌}
use mathlib.Core.Bool.{true, false}
use mathlib.Core.List.{List, [], ◌∷◌, ◌++◌, append-nil}
use native.Mathlib.Nat.{zero-add, sub-zero}
use native.Mathlib.Numerals.{add-one}
use native.Mathlib.Omega.{arith}
use lib.ListN.{length, take, drop, set, get_or, length-drop, length-set, take-append-drop}
use lib.Seq.{take-suc, take_all, take-suc-set, length-take-le, drop-cons, drop-length}
use borrow.Author.Tests.{eq-eqb, ne_eqb, lt-ltb, le-ltb, le-leb, lt-leb}
use Rattle.session.specs.declared.Run.{Run}
use Rattle.session.specs.declared.Session.{Session}
use Rattle.notation.specs.Text.{newline}
use Rattle.session.specs.Replay.{judged, longest_line}
use Rattle.session.specs.Feeding.{State, reading, ended, Fed, fed, fed_to, byte, closed}
use Rattle.notation.specs.Written.{PutsText}
use Rattle.session.specs.Session.{BoundedRun, Bounded, state_of, expected_of, takes, GoesOn, Feeds}
use Rattle.session.specs.Closing.{Closes, Takes}
use Rattle.notation.proofs.Placed.{puts_then, puts_nothing, placed_first}
use Rattle.session.proofs.AnyPieces.{fed_append, fed_ended}
use Rattle.printing.specs.Texts.{malformed_text}
use Rattle.printing.specs.Answers.{line_room}

-- after the first bytes of a piece
pub record Passed (s : Session) (piece before : List ℕ) (session : Session) (written taken : ℕ) (out : List ℕ) : Type 0 where
  pub in_piece : taken ≤ length piece
  pub state_is : state_of session ≡ (fed (take taken piece) (state_of s)).state
  pub puts : PutsText (fed (take taken piece) (state_of s)).printed 0 before written out
  pub within : written ≤ length before
  pub kept : length out ≡ length before
  pub bounded : Bounded session
  pub line_long : length session.line ≡ longest_line
  pub rest : takes (length before) piece (state_of s) ≡ taken + takes (length before - written) (drop taken piece) (state_of session)

-- what is taken of a piece: a byte more where there is room, nothing where there is none, all once the run has ended
takes_next : (room b : ℕ) (bs : List ℕ) (session : Session) → session.run.ended ≡ false → line_room ≤ room
    → takes room (b ∷ bs) (state_of session)
    ≡ suc (takes (room - length (byte b (state_of session)).printed) bs (byte b (state_of session)).state)
unfolding takes
takes_next room b bs session going h = rw (going, le-leb line_room room h)

takes_stops : (room b : ℕ) (bs : List ℕ) (session : Session) → session.run.ended ≡ false → room < line_room → takes room (b ∷ bs) (state_of session) ≡ 0
unfolding takes
takes_stops room b bs session going h = rw (going, lt-leb line_room room h)

takes_ended : (room : ℕ) (bs : List ℕ) → takes room bs ended ≡ length bs
unfolding takes
takes_ended room [] = refl
takes_ended room (b ∷ bs) = refl

takes_none : (room : ℕ) (s : State) → takes room [] s ≡ 0
unfolding takes
takes_none room s = refl

pub goes_on : GoesOn
unfolding takes
goes_on room b bs ended h = omega arith
goes_on room b bs (reading e n u part) h = rw (le-leb line_room room h) (omega arith)

fed_next : (piece : List ℕ) (s : State) (i : ℕ) → i < length piece
    → fed (take (i + 1) piece) s
    ≡ fed_to (byte (get_or piece i 0) (fed (take i piece) s).state).state
    ((fed (take i piece) s).printed ++ (byte (get_or piece i 0) (fed (take i piece) s).state).printed)
unfolding fed
fed_next piece s i h =
    rw (add-one i, take-suc piece i 0 h) (fed_append (take i piece) (get_or piece i 0 ∷ []) s ∙ rw append-nil)

-- nothing is taken yet
pub passed_none : (s : Session) (piece before : List ℕ) → Bounded s → length s.line ≡ longest_line → Passed s piece before s 0 0 before
unfolding fed
passed_none s piece before bounded long =
    record {
      in_piece = omega arith;
      state_is = refl;
      puts = puts_nothing 0 before;
      within = omega arith;
      kept = refl;
      bounded = bounded;
      line_long = long;
      rest = ap (λ (room : ℕ). takes room piece (state_of s)) (sym (sub-zero (length before))) ∙ sym (zero-add _);
    }

module _ {s : Session} {piece before : List ℕ} {session : Session} {written taken : ℕ} {out : List ℕ}
    (p : Passed s piece before session written taken out) where
  rest_next : taken < length piece → session.run.ended ≡ false → written + line_room ≤ length before → {session' : Session} {written' : ℕ} {out' : List ℕ}
      → Takes session (get_or piece taken 0) written out session' written' out'
      → takes (length before) piece (state_of s) ≡ taken + 1 + takes (length before - written') (drop (taken + 1) piece) (state_of session')
  rest_next h going room {session'} {written'} {out'} t =
      let b = get_or piece taken 0 in
      let f : Fed = byte b (state_of session) in
      let left : length before - written - length f.printed ≡ length before - written' = omega (arith, t.puts.next_is) in
      let one : takes (length before - written) (drop taken piece) (state_of session)
      ≡ suc (takes (length before - written') (drop (taken + 1) piece) (state_of session')) =
      ap (λ (l : List ℕ). takes (length before - written) l (state_of session)) (drop-cons piece taken 0 h)
      ∙ takes_next (length before - written) b (drop (suc taken) piece) session going (omega arith)
      ∙ rw (left, add-one taken, t.state_is) in
      p.rest ∙ omega (arith, one)

  -- a byte more
  pub passed_next_lem : taken < length piece → session.run.ended ≡ false → written + line_room ≤ length before → {session' : Session} {written' : ℕ} {out' : List ℕ}
      → Takes session (get_or piece taken 0) written out session' written' out' → length out' ≡ length before
      → Passed s piece before session' written' (taken + 1) out'
  passed_next_lem h going room {session'} {written'} {out'} t long =
      let f : Fed = byte (get_or piece taken 0) (state_of session) in
      let next : fed (take (taken + 1) piece) (state_of s) ≡ fed_to f.state ((fed (take taken piece) (state_of s)).printed ++ f.printed) =
      fed_next piece (state_of s) taken h ∙ rw (← p.state_is) in
      record {
        in_piece = omega arith;
        state_is = rw next t.state_is;
        puts = rw next (puts_then p.puts t.puts (omega (arith, p.puts.next_is, p.within)));
        within = omega (arith, t.puts.next_is, t.few);
        kept = long;
        bounded = t.bounded;
        line_long = t.line_stays p.line_long;
        rest = rest_next h going room t;
      }

  -- what was taken is what `feed` promises, where no more would be
  pub fed_so_far : Bounded s → takes (length before - written) (drop taken piece) (state_of session) ≡ 0 → Feeds s piece before session taken written out
  fed_so_far start stop =
      let size : written ≡ length (fed (take taken piece) (state_of s)).printed = p.puts.next_is ∙ zero-add _ in
      record {
        taken_is = λ _. omega (arith, p.rest, stop);
        takes_nothing = λ unsound. absurd (unsound start);
        state_is = p.state_is;
        written_is = size;
        bytes_are = p.puts.bytes_are ∙ placed_first _ before ∙ rw size;
        stays_bounded = λ _. p.bounded;
      }

  -- no more is taken where the piece is over, and where there is too little room
  pub over : taken ≡ length piece → takes (length before - written) (drop taken piece) (state_of session) ≡ 0
  over e =
      ap (λ (l : List ℕ). takes (length before - written) l (state_of session)) (rw e (drop-length piece))
      ∙ takes_none (length before - written) (state_of session)

  pub no_room : taken < length piece → session.run.ended ≡ false → length before - written < line_room
      → takes (length before - written) (drop taken piece) (state_of session) ≡ 0
  no_room h going low =
      ap (λ (l : List ℕ). takes (length before - written) l (state_of session)) (drop-cons piece taken 0 h)
      ∙ takes_stops (length before - written) (get_or piece taken 0) (drop (suc taken) piece) session going low

  -- a run that has ended takes the rest and prints nothing
  pub passed_ended : session.run.ended ≡ true → Passed s piece before session written (length piece) out
  passed_ended done =
      let state : (fed (take taken piece) (state_of s)).state ≡ ended = sym p.state_is ∙ rw done in
      let all : takes (length before - written) (drop taken piece) (state_of session) ≡ length piece - taken =
      rw done (takes_ended (length before - written) (drop taken piece) ∙ length-drop taken piece) in
      let none : takes (length before - written) (drop (length piece) piece) (state_of session) ≡ 0 =
      rw (drop-length piece) (takes_none (length before - written) (state_of session)) in
      let rest : fed piece (state_of s) ≡ fed_to ended (fed (take taken piece) (state_of s)).printed =
      ap (λ (l : List ℕ). fed l (state_of s)) (sym (take-append-drop taken piece))
      ∙ fed_append (take taken piece) (drop taken piece) (state_of s)
      ∙ rw (state, fed_ended (drop taken piece), append-nil) in
      let whole : fed (take (length piece) piece) (state_of s) ≡ fed_to ended (fed (take taken piece) (state_of s)).printed =
      ap (λ (l : List ℕ). fed l (state_of s)) (take_all (length piece) piece (omega arith)) ∙ rest in
      record {
        in_piece = omega arith;
        state_is = rw (whole, done);
        puts = rw whole p.puts;
        within = p.within;
        kept = p.kept;
        bounded = p.bounded;
        line_long = p.line_long;
        rest = omega (arith, p.rest, all, none, p.in_piece);
      }

-- what a byte does to a session that goes on
module _ (s : Session) (b : ℕ) (going : s.run.ended ≡ false) (long : length s.line ≡ longest_line) (short : s.count ≤ longest_line) where
  sized : length (take s.count s.line) ≡ s.count
  sized = length-take-le s.count s.line (omega arith)

  pub byte_closes : b ≡ newline
      → byte b (state_of s) ≡ closed (judged (expected_of s.run) s.run.number (take s.count s.line)) s.run.number s.run.unit
  unfolding byte
  byte_closes e = rw (going, eq-eqb b newline e)

  pub byte_breaks : (b ≡ newline → ⊥) → longest_line ≤ s.count → byte b (state_of s) ≡ fed_to ended (malformed_text s.run.number)
  unfolding byte
  byte_breaks e h = rw (going, ne_eqb b newline e, sized, le-ltb s.count longest_line h)

  pub takes_more : BoundedRun s.run → (b ≡ newline → ⊥) → s.count < longest_line → (at : ℕ) (before : List ℕ)
      → Takes s b at before (record { run = s.run; line = set s.line s.count b; count = s.count + 1 }) at before
  unfolding byte
  takes_more bounded e h at before =
      let grows : byte b (state_of s) ≡ fed_to (reading (expected_of s.run) s.run.number s.run.unit (take s.count s.line ++ (b ∷ []))) [] =
      rw (going, ne_eqb b newline e, sized, lt-ltb s.count longest_line h) in
      record {
        state_is = rw (grows, going, add-one, take-suc-set s.line s.count b (omega arith));
        bounded = record { bounded_run = bounded; within_line = omega arith };
        few = rw grows (omega arith);
        puts = rw grows (puts_nothing at before);
        line_stays = λ e. length-set s.line s.count b ∙ e;
      }

-- a byte that ends a line, of which nothing is kept
pub takes_line : {s : Session} {b : ℕ} {f : Fed} → byte b (state_of s) ≡ f → {at : ℕ} {before : List ℕ} {run : Run} {written : ℕ} {after : List ℕ}
    → Closes f at before run written after → Takes s b at before (record { run = run; line = s.line; count = 0 }) written after
takes_line e c =
    record {
      state_is = rw e c.state_is;
      bounded = record { bounded_run = c.bounded; within_line = omega arith };
      few = rw e c.few;
      puts = rw e c.puts;
      line_stays = λ e. e;
    }
