-- From what the tag's calls promise to what an event prints.
use Prim.Native.Nat.{ℕ, ◌+◌, ◌≤◌}
use mathlib.Core.Path.{◌≡◌, refl, sym, ap, ◌∙◌}
use mathlib.Core.List.{List, [], ◌∷◌, ◌++◌}
use native.Mathlib.Omega.{arith}
use lib.ListN.{length, take, drop, length-append}
use lib.Seq.{take-append_seam, length-take-le}
use Rattle.std.specs.Prelude.{Ok, Err}
use Rattle.laws.specs.Answer.{Result, gives, refuses, lent_after}
use Rattle.unit.specs.Refusals.{refusal_number, end_of, ending, wrote}
use Rattle.unit.specs.Outcome.{Outcome, Answers, Completes}
use Rattle.unit.specs.declared.TagUnit.{TagUnit}
use Rattle.unit.specs.Types.{Reply}
use Rattle.sizes.specs.Sizes.{answer_room}
use Rattle.time.specs.Passing.{Passes}
use Rattle.events.specs.Event.{Event, performed, printed, success_text, elapsed}
use Rattle.printing.specs.Texts.{bytes_text, refused_text, notes_text}
use Rattle.notation.specs.Text.{ascii, decimal, newline}
use Rattle.notation.specs.Written.{PutsText}
use Rattle.printing.specs.Answers.{line_room, answered_text, completed_text, passed_text, replies_within}
use Rattle.events.specs.Promises.{Performs}
use Rattle.events.proofs.NoAnswerBytes.{Quiet}
use Rattle.printing.proofs.Texts.{length_bytes, length_refused, length_notes}
use Rattle.notation.proofs.Decimal.{length_decimal}

-- an answer stands at the front of the lent bytes
taken_back : (n : ℕ) (a before after : List ℕ) → wrote n ≡ wrote (length a) → after ≡ lent_after (gives a) before → take n after ≡ a
unfolding lent_after
taken_back n a before after h b =
    let e : n ≡ length a = cc in
    rw (e, b) (take-append_seam a (drop (length a) before))

module _ (o : Outcome) (e : Event) (title : List ℕ) where
  -- an event with answer bytes
  pub answers_printed : ((a : List ℕ) → success_text e o a ≡ title ++ bytes_text a) → {u : TagUnit} {reply : Reply} {before after : List ℕ}
      → Answers o u reply before after → answered_text title reply after ≡ printed e o o.result
  unfolding printed
  answers_printed success {u} {reply} {before} {after} p = go o.result reply p.end_is p.bytes_are
    where
      go : (res : Result) (reply : Reply) → end_of reply ≡ ending res → after ≡ lent_after res before → answered_text title reply after ≡ printed e o res
      go (gives a) (Ok n) h b = rw (taken_back n a before after h b) (sym (success a))
      go (gives a) (Err r) h b = let z : ◌≡◌ {A = ℕ} 0 1 = cc in absurd (omega arith)
      go (refuses k) (Ok n) h b = let z : ◌≡◌ {A = ℕ} 0 1 = cc in absurd (omega arith)
      go (refuses k) (Err r) h b = let same : refusal_number r ≡ k = cc in ap refused_text same

  -- one without
  pub completes_printed : success_text e o [] ≡ title → Quiet o → {u : TagUnit} {reply : Reply}
      → Completes o u reply → completed_text title reply ≡ printed e o o.result
  unfolding printed
  completes_printed success quiet {u} {reply} p = go o.result reply p.end_is quiet.none
    where
      go : (res : Result) (reply : Reply) → end_of reply ≡ ending res → ((a : List ℕ) → res ≡ gives a → a ≡ []) → completed_text title reply ≡ printed e o res
      go (gives a) (Ok n) h none = rw (none a refl) (sym success)
      go (gives a) (Err r) h none = let z : ◌≡◌ {A = ℕ} 0 1 = cc in absurd (omega arith)
      go (refuses k) (Ok n) h none = let z : ◌≡◌ {A = ℕ} 0 1 = cc in absurd (omega arith)
      go (refuses k) (Err r) h none = let same : refusal_number r ≡ k = cc in ap refused_text same

-- time
pub passes_printed : (o : Outcome) (n : ℕ) {u : TagUnit} {reply : Reply} {at : ℕ} {before after : List ℕ}
    → Passes o u reply at before after → passed_text at u.clock.seconds reply after ≡ printed (elapsed n) o o.result
unfolding printed success_text
passes_printed o n {u} {reply} {at} {before} {after} p =
    rw (p.ended_is, p.answers.unit_is) (go o.result reply p.answers.end_is p.answers.bytes_are)
  where
    go : (res : Result) (reply : Reply) → end_of reply ≡ ending res → after ≡ lent_after res before
        → passed_text o.ended o.unit.clock.seconds reply after ≡ printed (elapsed n) o res
    go (gives a) (Ok n) h b = rw (taken_back n a before after h b)
    go (gives a) (Err r) h b = let z : ◌≡◌ {A = ℕ} 0 1 = cc in absurd (omega arith)
    go (refuses k) (Ok n) h b = let z : ◌≡◌ {A = ℕ} 0 1 = cc in absurd (omega arith)
    go (refuses k) (Err r) h b = let same : refusal_number r ≡ k = cc in ap refused_text same

-- no more bytes are said to be written than there are
pub answers_within : {o : Outcome} {u : TagUnit} {reply : Reply} {before after : List ℕ} (room : ℕ)
    → Answers o u reply before after → length after ≡ room → replies_within reply room
unfolding lent_after
answers_within {o} {u} {reply} {before} {after} room p size = go o.result reply p.end_is p.bytes_are
  where
    go : (res : Result) (reply : Reply) → end_of reply ≡ ending res → after ≡ lent_after res before → replies_within reply room
    go (gives a) (Ok n) h b =
        let e : n ≡ length a = cc in
        let long : length after ≡ length a + length (drop (length a) before) = ap length b ∙ length-append a (drop (length a) before) in
        omega arith
    go (gives a) (Err r) h b = tt
    go (refuses k) (Ok n) h b = let z : ◌≡◌ {A = ℕ} 0 1 = cc in absurd (omega arith)
    go (refuses k) (Err r) h b = tt

module _ (title : List ℕ) (short : length title ≤ 32) where
  pub length_answered : (reply : Reply) (answer : List ℕ) → length answer ≡ answer_room → replies_within reply answer_room → length (answered_text title reply answer) ≤ line_room
  length_answered (Ok n) answer size within =
      let cut : length (take n answer) ≡ n = length-take-le n answer (omega arith) in
      omega (arith, length-append title (bytes_text (take n answer)), length_bytes (take n answer) (omega arith))
  length_answered (Err r) answer size within = omega (arith, length_refused (refusal_number r))

  pub length_completed : (reply : Reply) → length (completed_text title reply) ≤ line_room
  length_completed (Ok n) = omega arith
  length_completed (Err r) = omega (arith, length_refused (refusal_number r))

pub length_passed : (at seconds : ℕ) (reply : Reply) (answer : List ℕ) → length answer ≡ answer_room → replies_within reply answer_room
    → length (passed_text at seconds reply answer) ≤ line_room
length_passed at seconds (Ok n) answer size within =
    let cut : length (take n answer) ≡ n = length-take-le n answer (omega arith) in
    omega (
      arith,
      length_notes at (take n answer) (omega arith),
      length_decimal seconds,
      length-append (notes_text at (take n answer)) (ascii "clock=" ++ (decimal seconds ++ (newline ∷ []))),
      length-append (decimal seconds) (newline ∷ []),
    )
length_passed at seconds (Err r) answer size within = omega (arith, length_refused (refusal_number r))

-- what a call of the tag answers is what its event prints
module _ (e : Event) (u : TagUnit) (title : List ℕ) (short : length title ≤ 32) {unit unit' : TagUnit} {reply : Reply} {at written : ℕ} {before out : List ℕ} where
  pub performs_answered : ((o : Outcome) (a : List ℕ) → success_text e o a ≡ title ++ bytes_text a) → {lent answer : List ℕ}
      → Answers (performed e u) unit reply lent answer → length answer ≡ answer_room
      → (unit' ≡ unit) × PutsText (answered_text title reply answer) at before written out → Performs e u at before unit' written out
  performs_answered success {lent} {answer} p size done =
      let prints = answers_printed (performed e u) e title (success (performed e u)) p in
      record {
        unit_is = done.0 ∙ p.unit_is;
        few = rw prints at (length_answered title short reply answer size (answers_within answer_room p size));
        puts = rw prints at done.1;
      }

  pub performs_completed : ((o : Outcome) → success_text e o [] ≡ title) → Quiet (performed e u) → Completes (performed e u) unit reply
      → (unit' ≡ unit) × PutsText (completed_text title reply) at before written out → Performs e u at before unit' written out
  performs_completed success quiet p done =
      let prints = completes_printed (performed e u) e title (success (performed e u)) quiet p in
      record { unit_is = done.0 ∙ p.unit_is; few = rw prints at (length_completed title short reply); puts = rw prints at done.1 }

pub performs_passed : (n : ℕ) (u : TagUnit) {unit unit' : TagUnit} {reply : Reply} {tenth at written : ℕ} {lent answer before out : List ℕ}
    → Passes (performed (elapsed n) u) unit reply tenth lent answer → length answer ≡ answer_room
    → (unit' ≡ unit) × PutsText (passed_text tenth unit.clock.seconds reply answer) at before written out
    → Performs (elapsed n) u at before unit' written out
performs_passed n u {unit} {unit'} {reply} {tenth} {at} {written} {lent} {answer} p size done =
    let prints = passes_printed (performed (elapsed n) u) n p in
    record {
      unit_is = done.0 ∙ p.answers.unit_is;
      few = rw prints at (length_passed tenth unit.clock.seconds reply answer size (answers_within answer_room p.answers size));
      puts = rw prints at done.1;
    }
