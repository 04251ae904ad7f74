-- Demand 1 holds. Every call is a choice between answers and refusals, so its end is found choice by choice: a call other than a write ends
-- with an answer or a plain refusal (`Plainly`), and the judgement of a write accepts or rejects with a number that spends (`Fair`).
use Prim.Native.Nat.{ℕ, zero, suc, ◌≤◌}
use mathlib.Core.Path.{◌≡◌, refl}
use mathlib.Core.Bool.{Bool, true, false, cond}
use mathlib.Core.List.{List, []}
use mathlib.Core.Option.{Option, some, none}
use native.Mathlib.Omega.{arith}
use lib.Dec.{ltb}
use lib.IntN.{ℤ}
use Rattle.laws.specs.Answer.{gives, refuses, lent_after}
use Rattle.laws.proofs.Flags.{fails}
use Rattle.wire.specs.Shape.{Request}
use Rattle.unit.specs.declared.TagUnit.{TagUnit}
use Rattle.unit.specs.declared.Settings.{Settings}
use Rattle.unit.specs.declared.Sound.{Sound}
use Rattle.sizes.specs.Sizes.{answer_room}
use Rattle.unit.specs.Ringable.{inside}
use Rattle.unit.specs.WellFormed.{settings_legal, well_formed}
use Rattle.unit.specs.Change.{spent, no_unit}
use Rattle.unit.specs.Outcome.{Outcome, giving, refusing, formed, answering}
use Rattle.unit.proofs.Lines.{lines}
use Rattle.authentication.specs.Judgement.{Judgement, accepts, rejects, under, concluded}
use Rattle.parameter_read.specs.Parameters.{read_parameters}
use Rattle.state_read.specs.State.{read_state}
use Rattle.provisioning.specs.Provisioning.{set_key}
use Rattle.clearing.specs.Clearing.{clear_key}
use Rattle.recovery.specs.Recovery.{recover_key}
use Rattle.ring_decisions.specs.declared.Decision.{Decision}
use Rattle.ringing.specs.Ringing.{ring, rung, read_sound}
use Rattle.protecting.specs.Protecting.{protect, unprotect}
use Rattle.handlers.specs.ById.{by_id}
use Rattle.requests.specs.Write.{judged, written}
use Rattle.time.specs.Time.{tenths, after_tenth, ends_next, one_tenth, timeout_notice}
use Rattle.advertising.specs.Showing.{showing}
use Rattle.read_call.specs.Read.{issuing}
use Rattle.press_call.specs.Press.{pressed}
use Rattle.key_calls.specs.Keys.{keeping, disconnected}
use Rattle.settings_calls.specs.Settings.{charged, new_unit}
use Rattle.tag.specs.Calls.{Written, read, write, button, pairing, battery, account_key, disconnect, frame, own, Act, calls, waits}
use Rattle.demanded_answers.specs.History.{step}
use Rattle.demanded_refusals.specs.Ends.{Spending, Plain, Ended, OnlyWrites, Made, Demand1, not_authenticated, invalid_value, no_consent, out_of_range, not_well_formed, wrong_nonce, wrong_account_key, no_frame, no_room, with_answer, refused_spent, refused_same, made, none as not_made}
use Rattle.demanded_refusals.proofs.Choices.{either}
use Rattle.demanded_answers.proofs.Guards.{room_for, own_of, act_guarded}

-- An answer, or a refusal that changes nothing
data Plainly (u : TagUnit) (o : Outcome) : Type 0 where
  answered : (answer : List ℕ) → o.result ≡ gives answer → Plainly u o
  refused : (n : ℕ) → Plain n → o.result ≡ refuses n → o.unit ≡ u → Plainly u o

module _ {u : TagUnit} where
  gave : (answer : List ℕ) (v : TagUnit) → Plainly u (giving answer v)
  gave answer v = answered answer refl

  refusal : {n : ℕ} → Plain n → Plainly u (refusing n u)
  refusal {n} p = refused n p refl refl

-- Time gives an answer, perhaps an empty one
abbrev Gives : Outcome → Type 0
Gives o = (answer : List ℕ) × (o.result ≡ gives answer)

tenth_gives : (b : Bool) (n : ℕ) (o : Outcome) → Gives o
    → Gives (cond b (record { unit = one_tenth o.unit; result = gives (timeout_notice o.unit); ended = suc n })
    (record { unit = one_tenth o.unit; result = o.result; ended = o.ended }))
tenth_gives true n o g = (timeout_notice o.unit, refl)
tenth_gives false n o g = g

pub tenths_give : (n : ℕ) (u : TagUnit) → Gives (tenths n u)
unfolding tenths after_tenth
tenths_give zero u = ([], refl)
tenths_give (suc n) u = tenth_gives (ends_next (tenths n u).unit.sound) n (tenths n u) (tenths_give n u)

tenths_end : (n : ℕ) {u : TagUnit} → Plainly u (tenths n u)
tenths_end n {u} = let g = tenths_give n u in answered g.0 g.1

pressed_end : (s : Sound) {u : TagUnit} → Plainly u (pressed s u)
unfolding pressed
pressed_end Sound.Silent = gave _ _
pressed_end (Sound.Ringing mask volume left) = gave _ _

-- A write, or an act that ends plainly
data Sort (u : TagUnit) : Act → Type 0 where
  writing : (w : Written) (room : ℕ) → Sort u (calls (write w) room)
  other : {a : Act} → Plainly u (own_of a u) → Sort u a

ruleset plainly = (gave, refusal, tenths_end, pressed_end, out_of_range, not_well_formed, wrong_nonce, wrong_account_key, no_frame, no_room)

sort : (a : Act) (u : TagUnit) → Sort u a
unfolding own issuing charged keeping disconnected showing
sort (calls (write w) room) u = writing w room
sort (calls (read nonce) room) u = other {a = calls (read nonce) room} (search (plainly, either (Plainly u)) depth 10)
sort (calls button room) u = other {a = calls button room} (pressed_end u.sound)
sort (calls (pairing on) room) u = other {a = calls (pairing on) room} (gave _ _)
sort (calls (battery level) room) u = other {a = calls (battery level) room} (search (plainly, either (Plainly u)) depth 10)
sort (calls (account_key key) room) u = other {a = calls (account_key key) room} (search (plainly, either (Plainly u)) depth 10)
sort (calls disconnect room) u = other {a = calls disconnect room} (gave _ _)
sort (calls frame room) u = other {a = calls frame room} (search (plainly, either (Plainly u)) depth 10)
sort (waits n room) u = other {a = waits n room} (tenths_end n)

-- A judgement that accepts, or rejects with a number that spends
data Fair : Judgement → Type 0 where
  accepted : {v : TagUnit} {answer : List ℕ} → Fair (accepts v answer)
  rejected : {n : ℕ} → Spending n → Fair (rejects n)

key_fair : (o : Option (List ℕ)) (j : List ℕ → Judgement) → ((key : List ℕ) → Fair (j key)) → Fair (under o j)
key_fair (some key) j h = h key
key_fair none j h = rejected not_authenticated

ruleset fairly = (key_fair, accepted, rejected, not_authenticated, invalid_value, no_consent)

rung_fair : (d : Decision) (u : TagUnit) (volume left : ℕ) → Fair (rung d u volume left)
unfolding rung
rung_fair (Decision.Started mask) u volume left = accepted
rung_fair Decision.Stopped u volume left = accepted
rung_fair Decision.Failed u volume left = accepted

by_id_fair : (u : TagUnit) (q : Request) (reach : ℕ) → Fair (by_id u q reach)
unfolding by_id read_parameters read_state set_key clear_key recover_key ring read_sound protect unprotect
by_id_fair u q reach = search (fairly, rung_fair, either Fair) depth 20

judged_fair : (u : TagUnit) (w : List ℕ) (reach : ℕ) → Fair (judged u w reach)
unfolding judged
judged_fair u w reach = search (fairly, either Fair, by_id_fair)

-- How a call ended, with the lent bytes
module _ {u : TagUnit} (before : List ℕ) where
  plain_ended : {o : Outcome} → Plainly u o → Ended u o before
  unfolding lent_after
  plain_ended (answered answer e) = with_answer answer e (rw e)
  plain_ended (refused n p e k) = refused_same n p e k (rw e)

  fair_ended : {j : Judgement} → Fair j → Ended u (concluded (spent u) j) before
  unfolding lent_after
  fair_ended (accepted {answer = answer}) = with_answer answer refl refl
  fair_ended (rejected {n = n} s) = refused_spent n s refl refl refl

  -- through the guards
  guards_ended : (room : ℕ) (own : Outcome) → Ended u own before → Ended u (answering room u own) before
  unfolding answering formed
  guards_ended room own h =
      either (λ o. Ended u o before) (ltb room answer_room) (plain_ended (refusal no_room))
      (either (λ o. Ended u o before) (well_formed u) h (plain_ended (refusal not_well_formed)))

  sort_ended : {a : Act} → Sort u a → Ended u (step a u) before
  unfolding own written
  sort_ended {a} (writing w room) =
      rw (act_guarded a u)
      (guards_ended (room_for a) (own_of a u)
      (either (λ o. Ended u o before) (inside w.reach u.settings.components) (fair_ended (judged_fair u w.bytes w.reach)) (plain_ended (refusal out_of_range))))
  sort_ended {a} (other p) = rw (act_guarded a u) (guards_ended (room_for a) (own_of a u) (plain_ended p))

-- No number is both plain and spending
spending_high : {n : ℕ} → Spending n → 0x80 ≤ n
spending_high not_authenticated = omega arith
spending_high invalid_value = omega arith
spending_high no_consent = omega arith

plain_low : {n : ℕ} → Plain n → n ≤ 6
plain_low out_of_range = omega arith
plain_low not_well_formed = omega arith
plain_low wrong_nonce = omega arith
plain_low wrong_account_key = omega arith
plain_low no_frame = omega arith
plain_low no_room = omega arith

never_spends : {u : TagUnit} {o : Outcome} {n : ℕ} → Plainly u o → Spending n → o.result ≡ refuses n → ⊥
never_spends {n = n} (answered answer e) s h = let z : ◌≡◌ {A = ℕ} 0 1 = cc in omega arith
never_spends {n = n} (refused m p e k) s h =
    let same : m ≡ n = cc in
    omega (arith, spending_high s, plain_low p)

guards_plain : {u : TagUnit} (room : ℕ) (own : Outcome) → Plainly u own → Plainly u (answering room u own)
unfolding answering formed
guards_plain {u} room own h =
    either (Plainly u) (ltb room answer_room) (refusal no_room) (either (Plainly u) (well_formed u) h (refusal not_well_formed))

sort_spends : {a : Act} (u : TagUnit) → Sort u a → OnlyWrites a u
sort_spends u (writing w room) n s h = (w, room, refl)
sort_spends {a} u (other p) n s h = absurd (never_spends {u = u} {o = step a u} (rw (act_guarded a u) (guards_plain (room_for a) (own_of a u) p)) s h)

-- The record of a refused new unit has a battery above 3
pub no_unit_lem : well_formed no_unit ≡ false
unfolding no_unit
no_unit_lem = fails (well_formed no_unit) (λ h. let l = lines no_unit h in omega (arith, l.battery))

new_units : (power : ℤ) (components selectable : ℕ) → Made power components selectable
unfolding new_unit no_unit
new_units power components selectable = go (settings_legal s) refl
  where
    s : Settings
    s = record { power = power; components = components; selectable = selectable }

    go : (b : Bool) → settings_legal s ≡ b → Made power components selectable
    go true e = made (rw e) (rw e)
    go false e = not_made (rw e) (rw e) no_unit_lem

pub demand1 : Demand1
demand1 =
    record {
      acts = λ a u before. sort_ended before (sort a u);
      spending = λ a u. sort_spends u (sort a u);
      new_units = new_units;
    }
