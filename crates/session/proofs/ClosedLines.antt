-- From a line that was read to what closing it does.
use Prim.Native.Nat.{ℕ, suc, ◌-◌, ◌≤◌, ◌<◌}
use mathlib.Core.Path.{◌≡◌, refl, ap}
use mathlib.Core.Bool.{false}
use mathlib.Core.List.{List, []}
use native.Mathlib.Numerals.{add-one}
use native.Mathlib.Omega.{arith}
use lib.Dec.{leb}
use lib.IntN.{ℤ}
use lib.ListN.{length, take}
use borrow.Author.Tests.{le-leb, lt-leb}
use Rattle.std.specs.Prelude.{Ok, Err}
use Rattle.laws.proofs.Flags.{and_fails_right}
use Rattle.laws.specs.Answer.{Result, gives, refuses}
use Rattle.unit.specs.Refusals.{refusal_number, end_of, ending}
use Rattle.unit.specs.Outcome.{Outcome, Completes}
use Rattle.unit.specs.declared.TagUnit.{TagUnit}
use Rattle.unit.specs.Types.{Reply}
use Rattle.session.specs.declared.Run.{Run}
use Rattle.lines.specs.declared.Awaited as code
use Rattle.lines.specs.declared.Next.{Next}
use Rattle.lines.specs.declared.Next.TheVariants as next
use Rattle.lines.specs.declared.Line as lines
use Rattle.session.specs.Replay.{judged, longest_line, most_lines}
use Rattle.session.specs.Feeding.{reading, ended, Fed, fed_to, closed, beginning}
use Rattle.session.specs.Session.{BoundedRun, state_with, expected_of}
use Rattle.session.specs.Closing.{Closes, ClosesLine, Ready, moved}
use Rattle.notation.proofs.Placed.{puts_nothing}
use Rattle.events.specs.Event.{Event}
use Rattle.printing.specs.Texts.{refused_text}
use Rattle.events.specs.Promises.{Performs}
use Rattle.lines.specs.Lines.{Awaited, event, inside, Line, follows, brings, breaks, taken}
use Rattle.lines.specs.Promises.{awaiting, expecting, line_of}

-- the line that the code told
pub closes_told : (run : Run) (n : ℕ) (bytes : List ℕ) {what known : lines.Line} → what ≡ known → {at written : ℕ} {before out : List ℕ} {after : Run}
    → ClosesLine (line_of known run.power run.components (take run.filled run.kept) n bytes) run at before after written out
    → ClosesLine (line_of what run.power run.components (take run.filled run.kept) n bytes) run at before after written out
closes_told run n bytes e p = rw e p

module _ (n : ℕ) (u : TagUnit) {at written : ℕ} {before : List ℕ} {run : Run} where
  pub closes_as : {l l' : Line} {out : List ℕ} → l ≡ l' → Closes (closed l n u) at before run written out → Closes (closed l' n u) at before run written out
  closes_as e p = rw e at p

  pub closes_fed : {f f' : Fed} {out : List ℕ} → f ≡ f' → Closes f at before run written out → Closes f' at before run written out
  closes_fed e p = rw e at p

  -- a line that another is to follow prints nothing
  pub closes_follow : (a : Awaited) → state_with run [] ≡ reading (inside a) (suc n) u [] → BoundedRun run → written ≡ at
      → Closes (closed (follows a) n u) at before run written before
  unfolding closed
  closes_follow a state bounded w =
      record { state_is = state; bounded = bounded; few = omega arith; puts = rw w (puts_nothing at before) }

-- the settings: a new unit, or a refusal that ends the run
abbrev pub begun_by : Reply → TagUnit → ℕ → Fed
begun_by (Ok k) u n = fed_to (reading event (suc n) u []) []
begun_by (Err r) u n = fed_to ended (refused_text (refusal_number r))

pub begins_by : (o : Outcome) {u : TagUnit} (reply : Reply) (n : ℕ) → Completes o u reply → begun_by reply u n ≡ beginning o o.result n
begins_by o {u} reply n p = rw p.unit_is (go o.result reply p.end_is)
  where
    go : (res : Result) (reply : Reply) → end_of reply ≡ ending res → begun_by reply o.unit n ≡ beginning o res n
    go (gives a) (Ok k) h = refl
    go (gives a) (Err r) h = let z : ◌≡◌ {A = ℕ} 0 1 = cc in absurd (omega arith)
    go (refuses k) (Ok m) h = let z : ◌≡◌ {A = ℕ} 0 1 = cc in absurd (omega arith)
    go (refuses k) (Err r) h = let same : refusal_number r ≡ k = cc in ap (λ (x : ℕ). fed_to ended (refused_text x)) same

-- the run with what lines before were read as
abbrev pub keeping : ℤ → ℕ → List ℕ → ℕ → Run → Run
keeping p c bytes n run =
    record {
      ended = run.ended;
      next = run.next;
      number = run.number;
      power = p;
      components = c;
      kept = bytes;
      filled = n;
      unit = run.unit;
    }

-- the run moved on to another line
pub closes_moved : (a : Awaited) (awaited : code.Awaited) (base : Run) {after : Run} {at written : ℕ} {before : List ℕ}
    → after ≡ moved (next.Inside awaited) base.unit base → base.ended ≡ false → base.number ≤ most_lines → base.filled ≤ 128
    → awaiting awaited base.power base.components (take base.filled base.kept) ≡ a → written ≡ at
    → Closes (closed (follows a) base.number base.unit) at before after written before
closes_moved a awaited base {after} {at} {written} {before} is going few fits means w =
    closes_follow base.number base.unit a
    (rw (is, going, means, add-one))
    (rw is (record { numbered = omega arith; within_kept = fits }))
    w

-- a line within the limits is judged by what is expected
module _ (run : Run) (line : List ℕ) where
  pub judged_is : {next : Next} → run.next ≡ next → length line ≤ longest_line → run.number ≤ most_lines
      → taken (expecting next run.power run.components (take run.filled run.kept)) line ≡ judged (expected_of run) run.number line
  unfolding judged
  judged_is e short few = rw (le-leb (length line) longest_line short, le-leb run.number most_lines few, e)

  pub judged_late : most_lines < run.number → breaks ≡ judged (expected_of run) run.number line
  unfolding judged
  judged_late late = rw (lt-leb run.number most_lines late, and_fails_right (leb (length line) longest_line) refl)

-- an event that was performed closes its line
pub closes_event : {e : Event} {run after : Run} {unit : TagUnit} {at written : ℕ} {before out : List ℕ} → Ready run at before
    → after ≡ moved next.Event unit run → Performs e run.unit at before unit written out → ClosesLine (brings e) run at before after written out
unfolding closed
closes_event ready is p =
    record {
      state_is = rw (is, ready.going, p.unit_is, add-one);
      bounded = rw is (record { numbered = omega (arith, ready.counted); within_kept = ready.bounded.within_kept });
      few = p.few;
      puts = p.puts;
    }
