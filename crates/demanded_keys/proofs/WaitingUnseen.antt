-- Before the disconnect nothing shows a waiting key: on two units that differ in it alone every other call makes the same checks, gives the
-- same bytes and leaves two such units. Each call is gone through side by side on both.
use Prim.Native.Nat.{ℕ, zero, suc, ◌-◌}
use mathlib.Core.Path.{◌≡◌, refl, sym, subst}
use mathlib.Core.Bool.{Bool, true, false, cond}
use mathlib.Core.List.{List, [], ◌∷◌}
use mathlib.Core.Option.{Option, some, none}
use lib.Dec.{ltb}
use Rattle.laws.specs.Answer.{Result}
use Rattle.sizes.specs.Sizes.{answer_room}
use Rattle.wire.specs.Shape.{Request}
use Rattle.unit.specs.declared.TagUnit.{TagUnit}
use Rattle.unit.specs.declared.Identity.{Identity}
use Rattle.unit.specs.declared.Sound.{Sound}
use Rattle.unit.specs.Ringable.{inside}
use Rattle.unit.specs.Change.{with_clock, with_waiting, with_sound, with_consent, silenced, spent}
use Rattle.standing.specs.Standing.{current_scalar, current_identifier, current_r, stands, shown_identifier}
use Rattle.unit.specs.WellFormed.{well_formed}
use Rattle.unit.specs.Outcome.{Outcome, formed, answering}
use Rattle.authentication.specs.Judgement.{Judgement, accepts, rejects, under, used_key, signed_by_owner, concluded}
use Rattle.parameter_read.specs.Parameters.{read_parameters}
use Rattle.state_read.specs.State.{read_state}
use Rattle.provisioning.specs.Provisioning.{set_key, may_replace}
use Rattle.clearing.specs.Clearing.{clear_key, cleared}
use Rattle.recovery.specs.Recovery.{recover_key}
use Rattle.ring_decisions.specs.declared.Decision.{Decision}
use Rattle.ringing.specs.Ringing.{ring, rung, read_sound}
use Rattle.protecting.specs.Protecting.{protect, unprotect}
use Rattle.handlers.specs.ById.{by_id}
use Rattle.requests.specs.Write.{judged, written}
use Rattle.time.specs.Time.{clock_on, ends_next, sound_on, ring_on, one_tenth, timeout_notice, after_tenth, tenths}
use Rattle.nonces.specs.Nonces.{nonce_fits}
use Rattle.advertising.specs.Showing.{showing}
use Rattle.read_call.specs.Read.{issuing}
use Rattle.press_call.specs.Press.{pressed}
use Rattle.key_calls.specs.Keys.{keeping}
use Rattle.settings_calls.specs.Settings.{charged}
use Rattle.tag.specs.Calls.{Call, read, write, button, pairing, battery, account_key, disconnect, frame, own, Act, calls, waits}
use Rattle.demanded_answers.specs.History.{step}
use Rattle.demanded_time.specs.Time.{World, called, slept, ran, runs}
use Rattle.demanded_keys.specs.WaitingKey.{Disconnects, disconnects, Connected}
use Rattle.demanded_answers.proofs.Guards.{room_for, own_of, act_guarded}
use Rattle.demanded_time.proofs.RingRuns.{next_formed}

-- the same but for the waiting key
pub record Beside (u v : TagUnit) : Type 0 where
  pub settings : v.settings ≡ u.settings
  pub clock : v.clock ≡ u.clock
  pub nonce : v.nonces ≡ u.nonces
  pub accounts : v.accounts ≡ u.accounts
  pub identity : v.identity ≡ u.identity
  pub sound : v.sound ≡ u.sound
  pub ring_nonce_is : v.ring_nonce ≡ u.ring_nonce
  pub protection : v.protection ≡ u.protection
  pub consent : v.consent ≡ u.consent
  pub pairing : v.pairing ≡ u.pairing
  pub battery : v.battery ≡ u.battery

-- two judgements
data Judges : Judgement → Judgement → Type 0 where
  accepted : {v w : TagUnit} {answer : List ℕ} → Beside v w → Judges (accepts v answer) (accepts w answer)
  rejected : {n : ℕ} → Judges (rejects n) (rejects n)

judges_either : (b : Bool) {x y v w : Judgement} → Judges x v → Judges y w → Judges (cond b x y) (cond b v w)
judges_either true h k = h
judges_either false h k = k

judges_under : (o : Option (List ℕ)) {f g : List ℕ → Judgement} → ((key : List ℕ) → Judges (f key) (g key)) → Judges (under o f) (under o g)
judges_under (some key) h = h key
judges_under none h = rejected

ruleset alike = (accepted, rejected, judges_either, judges_under)

rung_alike : (d : Decision) (u : TagUnit) (k : Identity) (volume left : ℕ) → Judges (rung d u volume left) (rung d (with_waiting k u) volume left)
unfolding rung
rung_alike (Decision.Started mask) u k volume left = search alike
rung_alike Decision.Stopped u k volume left = search alike
rung_alike Decision.Failed u k volume left = search alike

-- a key that is used, and the owner's in 0x02
module _ (u : TagUnit) (k : Identity) (q : Request) where
  parameters_alike : Judges (read_parameters u q) (read_parameters (with_waiting k u) q)
  unfolding read_parameters used_key
  parameters_alike = judges_under (used_key u q) (λ key. accepted (search))

  state_alike : Judges (read_state u q) (read_state (with_waiting k u) q)
  unfolding read_state used_key shown_identifier stands current_scalar current_identifier
  state_alike = judges_under (used_key u q) (λ key. accepted (search))

  set_alike : Judges (set_key u q) (set_key (with_waiting k u) q)
  unfolding set_key may_replace signed_by_owner
  set_alike = judges_under (signed_by_owner u q) (λ key. judges_either (may_replace u q) (accepted (search)) rejected)

by_id_alike : (u : TagUnit) (k : Identity) (q : Request) (reach : ℕ) → Judges (by_id u q reach) (by_id (with_waiting k u) q reach)
unfolding by_id clear_key cleared recover_key ring read_sound protect unprotect signed_by_owner
by_id_alike u k q reach = search (alike, rung_alike, parameters_alike u k q, state_alike u k q, set_alike u k q) depth 24

judged_alike : (u : TagUnit) (k : Identity) (w : List ℕ) (reach : ℕ) → Judges (judged u w reach) (judged (with_waiting k u) w reach)
unfolding judged
judged_alike u k w reach = search (alike, by_id_alike (spent u) k)

-- two outcomes
pub data Ends : Outcome → Outcome → Type 0 where
  ends : {v w : TagUnit} {r : Result} {n : ℕ} → Beside v w → Ends (record { unit = v; result = r; ended = n }) (record { unit = w; result = r; ended = n })

ends_either : (b : Bool) {x y v w : Outcome} → Ends x v → Ends y w → Ends (cond b x y) (cond b v w)
ends_either true h k = h
ends_either false h k = k

ends_unit : {o p : Outcome} → Ends o p → Beside o.unit p.unit
ends_unit (ends b) = b

ends_result : {o p : Outcome} → Ends o p → p.result ≡ o.result
ends_result (ends b) = refl

ends_ended : {o p : Outcome} → Ends o p → p.ended ≡ o.ended
ends_ended (ends b) = refl

concluded_alike : {u v : TagUnit} {i j : Judgement} → Beside u v → Judges i j → Ends (concluded u i) (concluded v j)
concluded_alike b (accepted h) = ends h
concluded_alike b rejected = ends b

module _ (u : TagUnit) (k : Identity) where
  pressed_alike : (s : Sound) → Ends (pressed s u) (pressed s (with_waiting k u))
  unfolding pressed
  pressed_alike Sound.Silent = search ends
  pressed_alike (Sound.Ringing mask volume left) = search ends

  pub own_alike : (c : Call) → (c ≡ disconnect → ⊥) → Ends (own c u) (own c (with_waiting k u))
  unfolding own issuing nonce_fits charged keeping showing stands current_scalar current_identifier current_r written
  own_alike (read nonce) other = search (ends, ends_either) depth 10
  own_alike (write w) other =
      ends_either (inside w.reach u.settings.components) (concluded_alike (search) (judged_alike u k w.bytes w.reach)) (search ends)
  own_alike button other = pressed_alike u.sound
  own_alike (pairing on) other = search ends
  own_alike (battery level) other = search (ends, ends_either) depth 10
  own_alike (account_key key) other = search (ends, ends_either) depth 10
  own_alike disconnect other = absurd (other refl)
  own_alike frame other = search (ends, ends_either) depth 10

-- Time: two units that are the same but for the waiting key, and an equation for it
beside_is : {u v : TagUnit} → Beside u v → v ≡ with_waiting v.waiting u
beside_is {u} {v} b = λ i.
    record {
      settings = b.settings i;
      clock = b.clock i;
      nonces = b.nonce i;
      accounts = b.accounts i;
      identity = b.identity i;
      waiting = v.waiting;
      sound = b.sound i;
      ring_nonce = b.ring_nonce_is i;
      protection = b.protection i;
      consent = b.consent i;
      pairing = b.pairing i;
      battery = b.battery i;
    }

-- a tenth, with the ring that ends in it or goes on
abbrev later : Bool → TagUnit → TagUnit
later b u =
    with_clock (clock_on u.clock) (with_consent (u.consent - 1) (cond b (silenced u) (with_sound (sound_on u.sound) u.ring_nonce u)))

later_beside : (b : Bool) (u : TagUnit) (k : Identity) → Beside (later b u) (later b (with_waiting k u))
later_beside true u k = search
later_beside false u k = search

tenth_beside : (u : TagUnit) (k : Identity) → Beside (one_tenth u) (one_tenth (with_waiting k u))
unfolding one_tenth ring_on
tenth_beside u k = later_beside (ends_next u.sound) u k

after_alike : (n : ℕ) {o p : Outcome} → Ends o p → Ends (after_tenth n o) (after_tenth n p)
unfolding after_tenth timeout_notice
after_alike n (ends {v} {w} b) = rw (beside_is b) (ends_either (ends_next v.sound) (ends (tenth_beside v w.waiting)) (ends (tenth_beside v w.waiting)))

tenths_alike : (n : ℕ) (u : TagUnit) (k : Identity) → Ends (tenths n u) (tenths n (with_waiting k u))
unfolding tenths
tenths_alike zero u k = search ends
tenths_alike (suc n) u k = after_alike n (tenths_alike n u k)

-- An act behind its guards, on both units well formed
own_of_alike : (a : Act) (u : TagUnit) (k : Identity) → (Disconnects a → ⊥) → Ends (own_of a u) (own_of a (with_waiting k u))
own_of_alike (calls c room) u k other = own_alike u k c (λ e. other (rw e disconnects))
own_of_alike (waits n room) u k other = tenths_alike n u k

step_alike : (a : Act) (u : TagUnit) (k : Identity) → well_formed u ≡ true → well_formed (with_waiting k u) ≡ true → (Disconnects a → ⊥)
    → Ends (step a u) (step a (with_waiting k u))
unfolding answering formed
step_alike a u k first second other =
    rw (act_guarded a u, act_guarded a (with_waiting k u), first, second)
    (ends_either (ltb (room_for a) answer_room) (search ends) (own_of_alike a u k other))

act_alike : (a : Act) {u v : TagUnit} → Beside u v → well_formed u ≡ true → well_formed v ≡ true → (Disconnects a → ⊥) → Ends (step a u) (step a v)
act_alike a {u} {v} b first second other =
    subst (λ (x : TagUnit). Ends (step a u) (step a x)) (sym (beside_is b))
    (step_alike a u v.waiting first (subst (λ (x : TagUnit). well_formed x ≡ true) (beside_is b) second) other)

-- Two runs so far, and over a list without a disconnect
pub record Along (v w : World) : Type 0 where
  pub unit : Beside v.unit w.unit
  pub count : w.count ≡ v.count
  pub answers : w.answers ≡ v.answers
  pub notifications : w.notifications ≡ v.notifications

ran_along : (a : Act) {v w : World} → Along v w → Ends (step a v.unit) (step a w.unit) → Along (ran slept a v) (ran slept a w)
unfolding ran called slept
ran_along (calls c room) z e =
    record {
      unit = ends_unit e;
      count = z.count;
      answers = rw (z.answers, ends_result e);
      notifications = rw (z.notifications, z.count, ends_result e);
    }
ran_along (waits n room) z e =
    record {
      unit = ends_unit e;
      count = rw z.count;
      answers = z.answers;
      notifications = rw (z.notifications, z.count, ends_ended e, ends_result e);
    }

pub runs_along : (l : List Act) {v w : World} → Along v w → well_formed v.unit ≡ true → well_formed w.unit ≡ true → Connected l
    → Along (runs slept l v) (runs slept l w)
unfolding runs
runs_along [] z first second connected = z
runs_along (a ∷ l) {v} {w} z first second connected =
    runs_along l (ran_along a z (act_alike a z.unit first second connected.0)) (next_formed a v first) (next_formed a w second) connected.1
