-- The end of the input: when nothing is missing, and what is promised of the lent bytes.
use Rattle.std.specs.Prelude.{Some, None}
use Prim.Native.Nat.{ℕ, ◌≤◌, ◌<◌}
use mathlib.Core.Path.{◌≡◌, refl, ap, ◌∙◌}
use mathlib.Core.Bool.{Bool, true, false, cond}
use mathlib.Core.List.{List, []}
use native.Mathlib.Nat.{zero-add}
use native.Mathlib.Omega.{arith}
use lib.Dec.{eqb}
use lib.ListN.{length, take, length-take}
use borrow.Author.Tests.{le-leb, lt-leb, eq-eqb, ne_eqb, eqb-true, eqb-false}
use Rattle.lines.specs.declared.Awaited.{Awaited}
use Rattle.lines.specs.declared.Next.TheVariants as next
use Rattle.session.specs.declared.Session.{Session}
use Rattle.session.specs.Replay.{longest_line}
use Rattle.session.specs.Feeding.{finish}
use Rattle.notation.specs.Written.{PutsText}
use Rattle.session.specs.Session.{state_of, finish_room, Finishes}
use Rattle.notation.proofs.Placed.{placed_first, puts_nothing}
use Rattle.printing.specs.Texts.{malformed_text}

module _ (s : Session) (before : List ℕ) where
  pub no_room : length before < finish_room → Finishes s before None before
  no_room h = record { result_is = rw (lt-leb finish_room (length before) h); bytes_are = rw (lt-leb finish_room (length before) h) }

  module _ (room : finish_room ≤ length before) where
    pub with_room : (text : List ℕ) {written : ℕ} {after : List ℕ} → finish (state_of s) ≡ text → PutsText text 0 before written after
        → Finishes s before (Some written) after
    with_room text {written} {after} is puts =
        record {
          result_is = rw (le-leb finish_room (length before) room, is) (ap Some (puts.next_is ∙ zero-add (length text)));
          bytes_are = rw (le-leb finish_room (length before) room, is) (puts.bytes_are ∙ placed_first text before);
        }

    pub over : s.run.ended ≡ true → Finishes s before (Some 0) before
    unfolding finish
    over h = with_room [] (rw h) (puts_nothing 0 before)

    -- where an event could begin: nothing, or what stands after the last newline
    pub event_left : {written : ℕ} {after : List ℕ} → s.run.ended ≡ false → s.run.next ≡ next.Event → length s.line ≡ longest_line
        → PutsText (cond (eqb s.count 0) [] (malformed_text s.run.number)) 0 before written after
        → Finishes s before (Some written) after
    unfolding finish
    event_left going here long puts =
        with_room (cond (eqb s.count 0) [] (malformed_text s.run.number)) (rw (going, here, cut (eqb s.count 0) refl)) puts
      where
        cut : (t : Bool) → eqb s.count 0 ≡ t → eqb (length (take s.count s.line)) 0 ≡ t
        cut true h = eq-eqb (length (take s.count s.line)) 0 (omega (arith, eqb-true s.count 0 h, length-take s.count s.line))
        cut false h = ne_eqb (length (take s.count s.line)) 0 (λ e. eqb-false s.count 0 h (omega (arith, e, length-take s.count s.line)))

    -- inside the settings or an event a line is missing
    pub inside_left : (a : Awaited) {written : ℕ} {after : List ℕ} → s.run.ended ≡ false → s.run.next ≡ next.Inside a
        → PutsText (malformed_text s.run.number) 0 before written after → Finishes s before (Some written) after
    unfolding finish
    inside_left a going here puts = with_room (malformed_text s.run.number) (rw (going, here)) puts
