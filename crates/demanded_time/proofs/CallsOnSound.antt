-- What each call does to sound, consent and notices on a well-formed unit: a press while silent, a press while ringing, the accepted 0x05 and
-- 0x03, and a disconnect that brings a key in do what they are for; every other call, refused ones too, leaves sound and consent and gives no
-- ring notice; so does an accepted 0x05 that failed, but for its notice. And what time does, with room and without.
use Prim.Native.Nat.{ℕ, ◌+◌, ◌≤◌}
use mathlib.Core.Path.{◌≡◌, refl, sym, ap, ◌∙◌}
use mathlib.Core.Bool.{Bool, true, false, cond, not}
use mathlib.Core.List.{List, [], ◌∷◌}
use native.Mathlib.Omega.{arith}
use lib.Dec.{eqb, leb, ltb}
use lib.ListN.{length, get_or}
use borrow.Author.Tests.{ne_eqb}
use Rattle.laws.specs.Answer.{gives}
use Rattle.wire.specs.Signing.{ring_id}
use Rattle.wire.specs.Shape.{parsed}
use Rattle.unit.specs.declared.TagUnit.{TagUnit}
use Rattle.unit.specs.declared.Sound.{Sound}
use Rattle.sizes.specs.Sizes.{account_key_size, most_keys, highest_battery}
use Rattle.tables.specs.Rows.{among}
use Rattle.unit.specs.WellFormed.{well_formed, held_keys}
use Rattle.unit.specs.Change.{spent}
use Rattle.standing.specs.Standing.{stands}
use Rattle.unit.specs.Outcome.{Outcome, giving, refusing}
use Rattle.frame.specs.Frame.{rendered}
use Rattle.time.specs.Time.{tenths}
use Rattle.nonces.specs.Nonces.{nonce_fits}
use Rattle.advertising.specs.Showing.{showing}
use Rattle.read_call.specs.Read.{issuing}
use Rattle.press_call.specs.Press.{pressed}
use Rattle.key_calls.specs.Keys.{keeping, brought_in as bringing, disconnected}
use Rattle.settings_calls.specs.Settings.{charged}
use Rattle.tag.specs.Calls.{Written, Call, read, write, button, pairing, battery, account_key, disconnect, frame, own, Act, calls, waits}
use Rattle.demanded_answers.specs.History.{step}
use Rattle.demanded_time.specs.Time.{at, noticed}
use Rattle.demanded_nonces.specs.Among.{Accepts, accepts, Notifies, notifies, Presses, presses, BringsIn, brings_in, tenths_in}
use Rattle.demanded_time.specs.RingLasts.{unfailed}
use Rattle.demanded_refusals.proofs.Choices.{tested}
use Rattle.demanded_answers.proofs.Guards.{room_for, Met, barred, passed, met}
use Rattle.demanded_nonces.proofs.WritesOnSound.{Left, Effect, apart, rings, stops, fails, clears, Ending, unreached, turned, served, written_so}

-- sound and consent left, and no ring notice
pub record Calm (u : TagUnit) (o : Outcome) : Type 0 where
  pub leaves : Left u o.unit
  pub quiet : noticed o.result ≡ []

pub data Does (a : Act) (u : TagUnit) : Type 0 where
  calmly : Calm u (step a u) → Does a u
  pressed_silent : Presses a → u.sound ≡ Sound.Silent → Does a u
  pressed_ringing : Presses a → (step a u).unit.consent ≡ u.consent → Does a u
  rung : Accepts 0x05 a u → (Notifies 1 a u → ⊥) → (step a u).unit.consent ≡ u.consent → Does a u
  failed : Left u (step a u).unit → ((t : ℕ) → unfailed (at t (noticed (step a u).result)) ≡ []) → Does a u
  cleared : Accepts 0x03 a u → (step a u).unit.consent ≡ 0 → Does a u
  brought_in : BringsIn a u → (step a u).unit.consent ≡ u.consent → Does a u

calm_refusal : (n : ℕ) (u : TagUnit) → Calm u (refusing n u)
calm_refusal n u = record { leaves = search; quiet = refl }

module _ (u : TagUnit) where
  read_calm : (nonce : List ℕ) → Calm u (issuing nonce u)
  unfolding issuing
  read_calm nonce = tested (Calm u) (nonce_fits u.nonces nonce) (λ e. record { leaves = search; quiet = refl }) (λ e. calm_refusal 3 u)

  battery_calm : (level : ℕ) → Calm u (charged level u)
  unfolding charged
  battery_calm level = tested (Calm u) (leb level highest_battery) (λ e. record { leaves = search; quiet = refl }) (λ e. calm_refusal 1 u)

  key_calm : (key : List ℕ) → Calm u (keeping key u)
  unfolding keeping
  key_calm key =
      tested (Calm u) (not (eqb (length key) account_key_size)) (λ e. calm_refusal 4 u)
      (λ e.
      tested (Calm u) (among key (held_keys u.accounts)) (λ a. record { leaves = search; quiet = refl }) (λ a. record { leaves = search; quiet = refl }))

  frame_calm : Calm u (showing u)
  unfolding showing rendered
  frame_calm = tested (Calm u) (stands u) (λ e. record { leaves = search; quiet = refl }) (λ e. calm_refusal 5 u)

-- The press that passes
press_does : (room : ℕ) (u : TagUnit) → 42 ≤ room → step (calls button room) u ≡ pressed u.sound u → Does (calls button room) u
unfolding pressed
press_does room u fits e = go u.sound refl e
  where
    go : (s : Sound) → u.sound ≡ s → step (calls button room) u ≡ pressed s u → Does (calls button room) u
    go Sound.Silent is o = pressed_silent (presses fits) is
    go (Sound.Ringing mask volume left) is o = pressed_ringing (presses fits) (ap (λ (x : Outcome). x.unit.consent) o)

-- The write that passes
other_id : (answer : List ℕ) (id : ℕ) → get_or answer 0 0 ≡ id → (id ≡ 0x05 → ⊥) → noticed (gives answer) ≡ []
other_id answer id e other = rw (e, ne_eqb id ring_id other)

-- a notice of a failure is not among those that did not fail
not_heard : (answer : List ℕ) → get_or answer 0 0 ≡ 0x05 → get_or answer 10 0 ≡ 1 → (t : ℕ) → unfailed (at t (noticed (gives answer))) ≡ []
not_heard [] id status t = refl
not_heard (b ∷ bs) id status t = rw (id, status)

-- one of another status did not fail
not_failed : {a : Act} {u : TagUnit} {answer : List ℕ} (status : ℕ) → (step a u).result ≡ gives answer → get_or answer 10 0 ≡ status → (status ≡ 1 → ⊥)
    → Notifies 1 a u → ⊥
not_failed {answer = answer} status given is other (notifies {answer = again} id gave failure) =
    let same : answer ≡ again = cc in
    other (sym is ∙ rw same failure)

module _ (w : Written) (room : ℕ) (u : TagUnit) where
  abbrev this : Act
  this = calls (write w) room

  effect_does : {v : TagUnit} {answer : List ℕ} → step this u ≡ giving answer v → Effect (spent u) (parsed w.bytes) w.reach v answer → Does this u
  unfolding parsed
  effect_does {v} {answer} o (apart head other l) =
      calmly
      (rw o
      (record {
        leaves = record { sound = l.sound; ring_nonce_is = l.ring_nonce_is; identity = l.identity; consent = l.consent };
        quiet = other_id answer (get_or w.bytes 0 0) head other;
      }))
  effect_does {v} {answer} o (rings mask id status is) =
      let given = ap (λ (x : Outcome). x.result) o in
      rung (accepts id (answer, given)) (not_failed 0 given status (λ z. omega arith))
      (ap (λ (x : Outcome). x.unit.consent) o ∙ ap (λ (x : TagUnit). x.consent) is)
  effect_does {v} {answer} o (stops id status is) =
      let given = ap (λ (x : Outcome). x.result) o in
      rung (accepts id (answer, given)) (not_failed 4 given status (λ z. omega arith))
      (ap (λ (x : Outcome). x.unit.consent) o ∙ ap (λ (x : TagUnit). x.consent) is)
  effect_does {v} {answer} o (fails id head status notice is) =
      failed (rw (o, is) (record { sound = refl; ring_nonce_is = refl; identity = refl; consent = refl })) (rw o (not_heard answer head status))
  effect_does {v} {answer} o (clears id silent is) =
      cleared (accepts id (answer, ap (λ (x : Outcome). x.result) o)) (ap (λ (x : Outcome). x.unit.consent) o ∙ is)

  write_does : {o : Outcome} → step this u ≡ o → Ending u w o → Does this u
  write_does e (unreached n) = calmly (rw e (calm_refusal n u))
  write_does e (turned n) = calmly (rw e (record { leaves = search; quiet = refl }))
  write_does e (served r s l auth effect) = effect_does e effect

-- The disconnect that passes
disconnect_does : (room : ℕ) (u : TagUnit) → well_formed u ≡ true → step (calls disconnect room) u ≡ disconnected u → Does (calls disconnect room) u
unfolding disconnected
disconnect_does room u formed e = go u.waiting.held refl e
  where
    go : (b : Bool) → u.waiting.held ≡ b → step (calls disconnect room) u ≡ giving [] (cond b (bringing u) u) → Does (calls disconnect room) u
    go true held o = brought_in (brings_in formed held) (ap (λ (x : Outcome). x.unit.consent) o)
    go false none o = calmly (rw o (record { leaves = search; quiet = refl }))

-- Each call that passes
own_does : (c : Call) (room : ℕ) (u : TagUnit) → 42 ≤ room_for (calls c room) → well_formed u ≡ true → step (calls c room) u ≡ own c u
    → Does (calls c room) u
unfolding own
own_does (read nonce) room u fits formed e = calmly (rw e (read_calm u nonce))
own_does (write w) room u fits formed e = write_does w room u e (written_so u w formed)
own_does button room u fits formed e = press_does room u fits e
own_does (pairing on) room u fits formed e = calmly (rw e (record { leaves = search; quiet = refl }))
own_does (battery level) room u fits formed e = calmly (rw e (battery_calm u level))
own_does (account_key key) room u fits formed e = calmly (rw e (key_calm u key))
own_does disconnect room u fits formed e = disconnect_does room u formed e
own_does frame room u fits formed e = calmly (rw e (frame_calm u))

pub call_does : (c : Call) (room : ℕ) (u : TagUnit) → Does (calls c room) u
call_does c room u = go (met (calls c room) u)
  where
    go : Met (calls c room) u → Does (calls c room) u
    go (barred n e bars) = calmly (rw e (calm_refusal n u))
    go (passed fits formed e) = own_does c room u fits formed e

-- the tenths of one act, and of a list that it begins
abbrev pub tenths_of : Act → ℕ
tenths_of a = tenths_in (a ∷ [])

pub begins : (a : Act) (l : List Act) → tenths_in (a ∷ l) ≡ tenths_of a + tenths_in l
begins (waits n room) l = omega arith
begins (calls c room) l = omega arith

-- Time, with room and without
module _ (n room : ℕ) (u : TagUnit) where
  pub time_passes : well_formed u ≡ true → 42 ≤ room → step (waits n room) u ≡ tenths n u
  time_passes formed fits = go (met (waits n room) u)
    where
      go : Met (waits n room) u → step (waits n room) u ≡ tenths n u
      go (barred k e bars) = absurd (bars fits formed)
      go (passed f w e) = e

  pub time_stands : (42 ≤ room → ⊥) → (k : ℕ) × (step (waits n room) u ≡ refusing k u)
  time_stands none = go (met (waits n room) u)
    where
      go : Met (waits n room) u → (k : ℕ) × (step (waits n room) u ≡ refusing k u)
      go (barred k e bars) = (k, e)
      go (passed f w e) = absurd (none f)
