-- What an exported call gives follows from what the tag's call and the end of the call promise; and a call that changes the unit had a
-- whole record.
use mathlib.Core.Path.{◌≡◌, refl, sym, ap, ◌∙◌}
use mathlib.Core.Logic.{⊎_elim}
use mathlib.Core.Bool.{Bool, true, false, cond, not, false≢true}
use mathlib.Core.List.{List, ◌++◌}
use Prim.Native.Nat.{ℕ, ◌+◌, ◌*◌, ◌≤◌, ◌<◌}
use native.Mathlib.Omega.{arith}
use lib.Dec.{eqb, leb, ltb}
use lib.IntN.{ℤ}
use lib.ListN.{length, drop, length-append}
use borrow.Author.Tests.{eqb-true, eqb-false}
use Rattle.std.specs.Prelude.{Ok, Err}
use Rattle.laws.specs.Answer.{Result, gives, refuses, lent_after}
use Rattle.laws.proofs.Flags.{true_or_false, clash}
use Rattle.sizes.specs.Sizes.{answer_room, account_key_size, highest_battery}
use Rattle.tables.specs.Rows.{among}
use Rattle.lent_answer.specs.Ends.{Ending, or_refusal, end_number, number_of, Ends as Digests}
use Rattle.unit.specs.declared.TagUnit.{TagUnit}
use Rattle.unit.specs.declared.Sound.{Sound}
use Rattle.unit.specs.Types.{Reply}
use Rattle.unit.specs.declared.Refusal.{Refusal}
use Rattle.unit.specs.declared.Refusal.TheVariants.{NotAuthenticated, InvalidValue, NoConsent, OutOfRange, NotWellFormed, WrongNonce, WrongAccountKey, NoFrame, NoRoom}
use Rattle.unit.specs.Refusals.{End, refusal_number, end_of, ending}
use Rattle.unit.specs.Ringable.{inside}
use Rattle.standing.specs.Standing.{stands}
use Rattle.unit.specs.Change.{spent}
use Rattle.unit.specs.WellFormed.{well_formed, settings_legal, held_keys}
use Rattle.unit.specs.Outcome.{Outcome, refusing, formed, answering, Completes, Answers}
use Rattle.authentication.specs.Judgement.{Judgement, accepts, rejects, concluded}
use Rattle.requests.specs.Write.{written, judged}
use Rattle.time.specs.Time.{tenths}
use Rattle.time.specs.Passing.{Passes}
use Rattle.nonces.specs.Nonces.{nonce_fits}
use Rattle.advertising.specs.Showing.{showing}
use Rattle.read_call.specs.Read.{issuing}
use Rattle.press_call.specs.Press.{pressed}
use Rattle.key_calls.specs.Keys.{keeping, disconnected}
use Rattle.settings_calls.specs.Settings.{charged, new_unit}
use Rattle.tag.specs.Calls.{Call, read, write, button, pairing, battery, account_key, disconnect, frame, own, lends, guarded, call, elapsed}
use Rattle.stored.specs.Record.{decoded, encoded, record_size}
use Rattle.stored.proofs.RoundTrip.{other_length, no_unit_malformed}
use Rattle.exports.specs.Exported.{ended_base, code, result_code, record_after, bytes_after, end_code, writes_back, Exports, ExportsAnswer, ExportsDigest, Finishes, digest_code}

-- bytes that mean a well-formed unit are a whole record
well_formed_length : (b : List ℕ) → well_formed (decoded b) ≡ true → length b ≡ record_size
well_formed_length b h =
    ⊎_elim (λ e. eqb-true (length b) record_size e)
    (λ e. absurd (clash h (ap well_formed (other_length b (eqb-false (length b) record_size e)) ∙ no_unit_malformed)))
    (true_or_false (eqb (length b) record_size))

-- an outcome that changes the unit only of a whole record
abbrev pub Whole : List ℕ → Outcome → Type 0
Whole b o = writes_back (ending o.result) ≡ true → length b ≡ record_size

-- the guards see to that, whatever a call does by itself
module _ (b : List ℕ) where
  formed_choice : (o : Outcome) (t : Bool) → well_formed (decoded b) ≡ t → Whole b (cond t o (refusing 2 (decoded b)))
  formed_choice o true e w = well_formed_length b e
  formed_choice o false e w = absurd (false≢true w)

  formed_whole : (o : Outcome) → Whole b (formed (decoded b) o)
  unfolding formed
  formed_whole o = formed_choice o (well_formed (decoded b)) refl

  room_choice : (o : Outcome) (t : Bool) → Whole b o → Whole b (cond t (refusing 6 (decoded b)) o)
  room_choice o true h w = absurd (false≢true w)
  room_choice o false h w = h w

  guarded_whole : (lent : Bool) (room : ℕ) (o : Outcome) → Whole b (guarded lent room (decoded b) o)
  unfolding guarded answering
  guarded_whole true room o = room_choice (formed (decoded b) o) (ltb room answer_room) (formed_whole o)
  guarded_whole false room o = formed_whole o

  call_whole : (c : Call) (room : ℕ) → Whole b (call c room (decoded b))
  unfolding call
  call_whole c room = guarded_whole (lends c) room (own c (decoded b))

  pub elapsed_whole : (n room : ℕ) → Whole b (elapsed n room (decoded b))
  unfolding elapsed
  elapsed_whole n room = guarded_whole true room (tenths n (decoded b))

-- an outcome with no ending tenth
pub record Untimed (o : Outcome) : Type 0 where
  pub none : o.ended ≡ 0

untimed : {u : TagUnit} {r : Result} → Untimed (record { unit = u; result = r; ended = 0 })
untimed = record { none = refl }

either : (t : Bool) {a b : Outcome} → Untimed a → Untimed b → Untimed (cond t a b)
either true p q = p
either false p q = q

pub new_untimed : (power : ℤ) (components selectable : ℕ) → Untimed (new_unit power components selectable)
unfolding new_unit
new_untimed power components selectable =
    either (settings_legal (record { power = power; components = components; selectable = selectable })) untimed untimed

concluded_untimed : (u : TagUnit) (j : Judgement) → Untimed (concluded u j)
concluded_untimed u (accepts after answer) = untimed
concluded_untimed u (rejects n) = untimed

pressed_untimed : (s : Sound) (u : TagUnit) → Untimed (pressed s u)
unfolding pressed
pressed_untimed Sound.Silent u = untimed
pressed_untimed (Sound.Ringing mask volume left) u = untimed

own_untimed : (c : Call) (u : TagUnit) → Untimed (own c u)
unfolding own issuing written charged keeping disconnected showing
own_untimed (read nonce) u = either (nonce_fits u.nonces nonce) untimed untimed
own_untimed (write w) u =
    either (inside w.reach u.settings.components) (concluded_untimed (spent u) (judged u w.bytes w.reach)) untimed
own_untimed button u = pressed_untimed u.sound u
own_untimed (pairing on) u = untimed
own_untimed (battery level) u = either (leb level highest_battery) untimed untimed
own_untimed (account_key key) u =
    either (not (eqb (length key) account_key_size)) untimed
    (either (among key (held_keys u.accounts)) untimed untimed)
own_untimed disconnect u = untimed
own_untimed frame u = either (stands u) untimed untimed

guarded_untimed : (lent : Bool) (room : ℕ) (u : TagUnit) {o : Outcome} → Untimed o → Untimed (guarded lent room u o)
unfolding guarded answering formed
guarded_untimed true room u h = either (ltb room answer_room) untimed (either (well_formed u) h untimed)
guarded_untimed false room u h = either (well_formed u) h untimed

call_untimed : (c : Call) (room : ℕ) (u : TagUnit) → Untimed (call c room u)
unfolding call
call_untimed c room u = guarded_untimed (lends c) room u (own_untimed c u)

-- from the end of the tag's call to the number and the record
pub back_whole : (o : Outcome) (b : List ℕ) (reply : Reply) → Whole b o → end_of reply ≡ ending o.result
    → writes_back (end_of reply) ≡ true → length b ≡ record_size
back_whole o b reply h e w = h (rw e at w)

end_code_lem : (r : Result) → end_code (ending r) ≡ result_code r
end_code_lem (gives answer) = refl
end_code_lem (refuses n) = refl

kept_bytes : (o : Outcome) (r : Result) (before : List ℕ) → cond (writes_back (ending r)) (encoded o.unit) before ≡ bytes_after o r before
kept_bytes o (gives answer) before = refl
kept_bytes o (refuses n) before = refl

module _ (o : Outcome) (reply : Reply) {unit : TagUnit} {result : ℕ} {before after : List ℕ} where
  pub finished_code : end_of reply ≡ ending o.result → Finishes unit (end_of reply) result before after → result ≡ result_code o.result
  finished_code e f = f.code_is ∙ ap end_code e ∙ end_code_lem o.result

  pub finished_record : unit ≡ o.unit → end_of reply ≡ ending o.result → Finishes unit (end_of reply) result before after
      → after ≡ record_after o before
  unfolding record_after
  finished_record u e f =
      f.record_is ∙ ap (λ (x : End). cond (writes_back x) (encoded unit) before) e
      ∙ ap (λ (x : TagUnit). cond (writes_back (ending o.result)) (encoded x) before) u ∙ kept_bytes o o.result before

module _ {o : Outcome} {reply : Reply} {unit : TagUnit} {result : ℕ} {before after : List ℕ} where
  pub exported : Completes o unit reply → Untimed o → Finishes unit (end_of reply) result before after → Exports o result before after
  unfolding code
  exported s t f =
      record {
        code_is = finished_code o reply s.end_is f ∙ rw t.none (omega arith);
        record_is = finished_record o reply s.unit_is s.end_is f;
      }

  pub exported_answer : {lent given : List ℕ} → Answers o unit reply lent given → Untimed o → Finishes unit (end_of reply) result before after
      → ExportsAnswer o result before after lent given
  unfolding code
  exported_answer s t f =
      record {
        code_is = finished_code o reply s.end_is f ∙ rw t.none (omega arith);
        record_is = finished_record o reply s.unit_is s.end_is f;
        bytes_are = s.bytes_are;
      }

-- and so for every call on the unit that bytes mean
module _ (c : Call) (room : ℕ) (b : List ℕ) {u unit : TagUnit} {reply : Reply} (read : u ≡ decoded b) where
  pub completes_whole : Completes (call c room u) unit reply → writes_back (end_of reply) ≡ true → length b ≡ record_size
  completes_whole s = back_whole (call c room (decoded b)) b reply (call_whole b c room) (rw read at s.end_is)

  pub completes_exports : {result : ℕ} {after : List ℕ} → Completes (call c room u) unit reply → Finishes unit (end_of reply) result b after
      → Exports (call c room (decoded b)) result b after
  completes_exports s f = exported (rw read at s) (call_untimed c room (decoded b)) f

  module _ {lent given : List ℕ} where
    pub answers_whole : Answers (call c room u) unit reply lent given → writes_back (end_of reply) ≡ true → length b ≡ record_size
    answers_whole s = back_whole (call c room (decoded b)) b reply (call_whole b c room) (rw read at s.end_is)

    pub answers_exports : {result : ℕ} {after : List ℕ} → Answers (call c room u) unit reply lent given → Finishes unit (end_of reply) result b after
        → ExportsAnswer (call c room (decoded b)) result b after lent given
    answers_exports s f = exported_answer (rw read at s) (call_untimed c room (decoded b)) f

-- and for time, whose number also has the ending tenth
module _ (n room : ℕ) (b : List ℕ) {u unit : TagUnit} {reply : Reply} {ended : ℕ} {lent given : List ℕ} (read : u ≡ decoded b)
    (p : Passes (elapsed n room u) unit reply ended lent given) where
  passes : Passes (elapsed n room (decoded b)) unit reply ended lent given
  passes = rw read at p

  pub passes_whole : writes_back (end_of reply) ≡ true → length b ≡ record_size
  passes_whole = back_whole (elapsed n room (decoded b)) b reply (elapsed_whole b n room) passes.answers.end_is

  pub passes_exports : {result : ℕ} {after : List ℕ} → Finishes unit (end_of reply) result b after
      → ExportsAnswer (elapsed n room (decoded b)) (result + ended * ended_base) b after lent given
  unfolding code
  passes_exports f =
      record {
        code_is = rw (finished_code (elapsed n room (decoded b)) reply passes.answers.end_is f, passes.ended_is);
        record_is = finished_record (elapsed n room (decoded b)) reply passes.answers.unit_is passes.answers.end_is f;
        bytes_are = passes.answers.bytes_are;
      }

-- the number of a call's end is small: an answer is no longer than the lent bytes, and the refusals' numbers are
number_small : (r : Refusal) → refusal_number r < 256
number_small NotAuthenticated = omega arith
number_small InvalidValue = omega arith
number_small NoConsent = omega arith
number_small OutOfRange = omega arith
number_small NotWellFormed = omega arith
number_small WrongNonce = omega arith
number_small WrongAccountKey = omega arith
number_small NoFrame = omega arith
number_small NoRoom = omega arith

pub code_small : (reply : Reply) (r : Result) (lent given : List ℕ) → end_of reply ≡ ending r → given ≡ lent_after r lent → length given ≡ length lent
    → end_code (end_of reply) ≤ length lent + 512
unfolding lent_after
code_small (Err x) r lent given e a k = omega (arith, number_small x)
code_small (Ok n) (gives answer) lent given e a k =
    let same : n ≡ length answer = cc in
    let all : length given ≡ length (answer ++ drop (length answer) lent) = ap length a in
    omega (arith, length-append answer (drop (length answer) lent))
code_small (Ok n) (refuses m) lent given e a k = let z : ◌≡◌ {A = ℕ} 0 1 = cc in omega arith

-- a primitive's answer has the size that the number tells
digest_code_lem : (ok : Bool) (digest : List ℕ) (size : ℕ) (end : Ending) → (ok ≡ true → length digest ≡ size)
    → end_number end ≡ number_of (or_refusal ok digest) → digest_code size end ≡ result_code (or_refusal ok digest)
unfolding or_refusal
digest_code_lem true digest size (Ok done) n e = sym (n refl)
digest_code_lem true digest size (Err wrong) n e = absurd (omega arith)
digest_code_lem false digest size (Ok done) n e = absurd (omega arith)
digest_code_lem false digest size (Err wrong) n e = refl

pub exported_digest : (ok : Bool) (digest : List ℕ) {size result : ℕ} {end : Ending} {before after : List ℕ} → (ok ≡ true → length digest ≡ size)
    → Digests (or_refusal ok digest) end before after → result ≡ digest_code size end → ExportsDigest (or_refusal ok digest) result before after
exported_digest ok digest {size} {result} {end} n d e =
    record { code_is = e ∙ digest_code_lem ok digest size end n d.end_is; bytes_are = d.bytes_are }
