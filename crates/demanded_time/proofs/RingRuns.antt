-- A ring over a list of calls that do not disturb it, by induction: a call leaves the ring as it is (Meanwhile), time takes from what is left
-- until none is (RingTenths), and silence then stays.
use Prim.Native.Nat.{ℕ, ◌+◌, ◌-◌, ◌≤◌, ◌<◌}
use mathlib.Core.Path.{◌≡◌, refl, sym, ap, subst, ◌∙◌}
use mathlib.Core.Bool.{Bool, true, false, cond}
use mathlib.Core.List.{List, [], ◌∷◌, ◌++◌, append-nil}
use native.Mathlib.Omega.{arith}
use native.Mathlib.Decide.{dec_lt}
use lib.Dec.{eqb, leb}
use lib.ListN.{get_or, replicate}
use borrow.Author.Tests.{leb-true, leb-false}
use Rattle.wire.specs.Signing.{signed, answer_tag}
use Rattle.unit.specs.declared.TagUnit.{TagUnit}
use Rattle.unit.specs.declared.Identity.{Identity}
use Rattle.unit.specs.declared.Sound.{Sound}
use Rattle.unit.specs.WellFormed.{well_formed}
use Rattle.unit.specs.Outcome.{refusing}
use Rattle.unit.proofs.Lines.{lines, ring_held}
use Rattle.time.specs.Time.{tenths}
use Rattle.tag.specs.Calls.{Call, Act, calls, waits}
use Rattle.demanded_answers.specs.History.{step}
use Rattle.demanded_time.specs.Time.{Notification, World, at, bytes_given, noticed, called, slept, ran, runs}
use Rattle.demanded_nonces.specs.Among.{NoneIn, tenths_in}
use Rattle.demanded_answers.specs.Spelled.{key_from}
use Rattle.demanded_time.specs.RingLasts.{timeout_from, unfailed, Disturbs, pressed, rung as ring_again, cleared as key_cleared, brought_in as new_key}
use Rattle.demanded_refusals.proofs.Formed.{formed}
use Rattle.demanded_answers.proofs.Judging.{status_signed}
use Rattle.demanded_nonces.proofs.WritesOnSound.{Left}
use Rattle.demanded_time.proofs.RingTenths.{silent_call, ringing_call, ending_call}
use Rattle.demanded_time.proofs.CallsOnSound.{Calm, Does, calmly, pressed_silent, pressed_ringing, rung, failed, cleared, brought_in, call_does, tenths_of, begins, time_passes, time_stands}

-- Notices but of failures, of two lists one behind the other; that of a timeout is one of them
unfailed_append : (xs ys : List Notification) → unfailed (xs ++ ys) ≡ unfailed xs ++ unfailed ys
unfailed_append [] ys = refl
unfailed_append (x ∷ xs) ys = go (eqb (get_or x.notice 10 0) 1) (unfailed_append xs ys)
  where
    go : (b : Bool) → unfailed (xs ++ ys) ≡ unfailed xs ++ unfailed ys
        → cond b (unfailed (xs ++ ys)) (x ∷ unfailed (xs ++ ys)) ≡ cond b (unfailed xs) (x ∷ unfailed xs) ++ unfailed ys
    go true e = e
    go false e = ap (λ (l : List Notification). x ∷ l) e

timeout_heard : (identity nonce : List ℕ) (t : ℕ) → unfailed (at t (timeout_from identity nonce)) ≡ at t (timeout_from identity nonce)
unfolding signed answer_tag
timeout_heard identity nonce t = rw (status_signed (key_from 0x02 identity) nonce 0x05 2 (0 ∷ 0 ∷ 0 ∷ []))

-- A world that an act left as it was, as far as the ring and its notices go
record Idle (v w : World) : Type 0 where
  sound : w.unit.sound ≡ v.unit.sound
  ring_nonce_is : w.unit.ring_nonce ≡ v.unit.ring_nonce
  identity : w.unit.identity ≡ v.unit.identity
  count : w.count ≡ v.count
  notices : unfailed w.notifications ≡ unfailed v.notifications

-- or in which n tenths passed
record Later (n : ℕ) (v w : World) : Type 0 where
  unit : w.unit ≡ (tenths n v.unit).unit
  count : w.count ≡ v.count + n
  notices : w.notifications ≡ v.notifications ++ at (v.count + (tenths n v.unit).ended) (bytes_given (tenths n v.unit).result)

data Turn (a : Act) (v : World) : Type 0 where
  idle : tenths_of a ≡ 0 → Idle v (ran slept a v) → Turn a v
  later : (n : ℕ) → tenths_of a ≡ n → Later n v (ran slept a v) → Turn a v

calm_idle : (c : Call) (room : ℕ) (v : World) → Calm v.unit (step (calls c room) v.unit) → Idle v (called c room v)
unfolding called
calm_idle c room v calm =
    record {
      sound = calm.leaves.sound;
      ring_nonce_is = calm.leaves.ring_nonce_is;
      identity = calm.leaves.identity;
      count = refl;
      notices = rw (calm.quiet, append-nil);
    }

failed_idle : (c : Call) (room : ℕ) (v : World) → Left v.unit (step (calls c room) v.unit).unit
    → ((t : ℕ) → unfailed (at t (noticed (step (calls c room) v.unit).result)) ≡ []) → Idle v (called c room v)
unfolding called
failed_idle c room v leaves unheard =
    record {
      sound = leaves.sound;
      ring_nonce_is = leaves.ring_nonce_is;
      identity = leaves.identity;
      count = refl;
      notices = unfailed_append v.notifications _ ∙ rw (unheard v.count, append-nil);
    }

call_turn : (c : Call) (room : ℕ) (v : World) → Does (calls c room) v.unit → (Disturbs (calls c room) v.unit → ⊥) → Turn (calls c room) v
unfolding ran
call_turn c room v (calmly calm) free = idle refl (calm_idle c room v calm)
call_turn c room v (pressed_silent p s) free = absurd (free (pressed p))
call_turn c room v (pressed_ringing p e) free = absurd (free (pressed p))
call_turn c room v (rung a unfails e) free = absurd (free (ring_again a unfails))
call_turn c room v (failed leaves unheard) free = idle refl (failed_idle c room v leaves unheard)
call_turn c room v (cleared a e) free = absurd (free (key_cleared a))
call_turn c room v (brought_in b e) free = absurd (free (new_key b))

module _ (n room : ℕ) (v : World) where
  slept_later : leb 42 room ≡ true → step (waits n room) v.unit ≡ tenths n v.unit → Later n v (slept n room v)
  unfolding slept
  slept_later fits e = record { unit = rw e; count = rw fits; notices = rw e }

  slept_idle : leb 42 room ≡ false → (k : ℕ) → step (waits n room) v.unit ≡ refusing k v.unit → Idle v (slept n room v)
  unfolding slept
  slept_idle none k e =
      record { sound = rw e; ring_nonce_is = rw e; identity = rw e; count = rw none (omega arith); notices = rw (e, append-nil) }

  time_turn : well_formed v.unit ≡ true → Turn (waits n room) v
  unfolding ran
  time_turn w = go (leb 42 room) refl
    where
      go : (b : Bool) → leb 42 room ≡ b → Turn (waits n room) v
      go true e = later n (rw e (omega arith)) (slept_later e (time_passes n room v.unit w (leb-true 42 room e)))
      go false e =
          let stands = time_stands n room v.unit (λ fits. omega (arith, leb-false 42 room e)) in
          idle (rw e) (slept_idle e stands.0 stands.1)

turn : (a : Act) (v : World) → well_formed v.unit ≡ true → (Disturbs a v.unit → ⊥) → Turn a v
turn (calls c room) v w free = call_turn c room v (call_does c room v.unit) free
turn (waits n room) v w free = time_turn n room v w

-- the unit of a world after an act
pub ran_unit : (a : Act) (v : World) → (ran slept a v).unit ≡ (step a v.unit).unit
unfolding ran slept called
ran_unit (waits n room) v = refl
ran_unit (calls c room) v = refl

pub next_formed : (a : Act) (v : World) → well_formed v.unit ≡ true → well_formed (ran slept a v).unit ≡ true
next_formed a v w = rw (ran_unit a v) (formed.kept a v.unit w)

next_free : (a : Act) (l : List Act) (v : World) → NoneIn Disturbs l (step a v.unit).unit → NoneIn Disturbs l (ran slept a v).unit
next_free a l v free = subst (λ (x : TagUnit). NoneIn Disturbs l x) (sym (ran_unit a v)) free

-- Silence stays, and nothing is said
record Silence (v z : World) : Type 0 where
  silent : z.unit.sound ≡ Sound.Silent
  ring_nonce_is : z.unit.ring_nonce ≡ v.unit.ring_nonce
  notices : unfailed z.notifications ≡ unfailed v.notifications

silent_turn : {a : Act} {v z : World} → Turn a v → v.unit.sound ≡ Sound.Silent → ((ran slept a v).unit.sound ≡ Sound.Silent → Silence (ran slept a v) z)
    → Silence v z
silent_turn (idle t i) e rest =
    let r = rest (i.sound ∙ e) in
    record { silent = r.silent; ring_nonce_is = r.ring_nonce_is ∙ i.ring_nonce_is; notices = r.notices ∙ i.notices }
silent_turn {a} {v} {z} (later n t i) e rest =
    let c = silent_call n v.unit e in
    let r = rest (ap (λ (x : TagUnit). x.sound) i.unit ∙ c.silent) in
    let none : (ran slept a v).notifications ≡ v.notifications = i.notices ∙ rw (c.nothing, append-nil) in
    record {
      silent = r.silent;
      ring_nonce_is = r.ring_nonce_is ∙ ap (λ (x : TagUnit). x.ring_nonce) i.unit ∙ c.rest.7;
      notices = r.notices ∙ ap unfailed none;
    }

silent_run : (l : List Act) (v : World) → well_formed v.unit ≡ true → v.unit.sound ≡ Sound.Silent → NoneIn Disturbs l v.unit
    → Silence v (runs slept l v)
unfolding runs
silent_run [] v w e free = record { silent = e; ring_nonce_is = refl; notices = refl }
silent_run (a ∷ l) v w e free =
    silent_turn (turn a v w free.0) e
    (λ silent. silent_run l (ran slept a v) (next_formed a v w) silent (next_free a l v free.1))

-- A ring with tenths left, and the world after n tenths
pub record Goes (mask volume left : ℕ) (identity nonce : List ℕ) (n : ℕ) (v z : World) : Type 0 where
  pub on_sound : n < left → z.unit.sound ≡ Sound.Ringing mask volume (left - n)
  pub on_nonce : n < left → z.unit.ring_nonce ≡ nonce
  pub on_notices : n < left → unfailed z.notifications ≡ unfailed v.notifications
  pub over_sound : left ≤ n → z.unit.sound ≡ Sound.Silent
  pub over_nonce : left ≤ n → z.unit.ring_nonce ≡ replicate 8 0
  pub over_notices : left ≤ n → unfailed z.notifications ≡ unfailed v.notifications ++ at (v.count + left) (timeout_from identity nonce)

-- a world in which such a ring sounds
pub record Sounds (mask volume left : ℕ) (identity nonce : List ℕ) (v : World) : Type 0 where
  pub ringing : v.unit.sound ≡ Sound.Ringing mask volume left
  pub key : v.unit.identity.bytes ≡ identity
  pub tagged : v.unit.ring_nonce ≡ nonce

module _ (mask volume : ℕ) (identity nonce : List ℕ) (a : Act) (v z : World) (k : ℕ) where
  -- the act left the ring as it was
  after_idle : {left n : ℕ} → n ≡ k → Idle v (ran slept a v) → Goes mask volume left identity nonce k (ran slept a v) z
      → Goes mask volume left identity nonce n v z
  after_idle {left} {n} same i g =
      record {
        on_sound = λ h. rw same (g.on_sound (omega arith));
        on_nonce = λ h. g.on_nonce (omega arith);
        on_notices = λ h. g.on_notices (omega arith) ∙ i.notices;
        over_sound = λ h. g.over_sound (omega arith);
        over_nonce = λ h. g.over_nonce (omega arith);
        over_notices = λ h. g.over_notices (omega arith) ∙ rw (i.notices, i.count);
      }

  -- m tenths passed, fewer than were left
  after_some : {left n : ℕ} (m : ℕ) → n ≡ m + k → m < left → (ran slept a v).count ≡ v.count + m → unfailed (ran slept a v).notifications ≡ unfailed v.notifications
      → Goes mask volume (left - m) identity nonce k (ran slept a v) z
      → Goes mask volume left identity nonce n v z
  after_some {left} {n} m same more count notices g =
      let all : v.count + m + (left - m) ≡ v.count + left = omega arith in
      record {
        on_sound = λ h. let less : left - m - k ≡ left - n = omega arith in rw (← less) (g.on_sound (omega arith));
        on_nonce = λ h. g.on_nonce (omega arith);
        on_notices = λ h. g.on_notices (omega arith) ∙ notices;
        over_sound = λ h. g.over_sound (omega arith);
        over_nonce = λ h. g.over_nonce (omega arith);
        over_notices = λ h. g.over_notices (omega arith) ∙ rw (notices, count, all);
      }

  -- m tenths passed, as many as were left or more
  after_all : {left n : ℕ} (m : ℕ) → n ≡ m + k → left ≤ m → (ran slept a v).unit.ring_nonce ≡ replicate 8 0
      → unfailed (ran slept a v).notifications ≡ unfailed v.notifications ++ at (v.count + left) (timeout_from identity nonce)
      → Silence (ran slept a v) z
      → Goes mask volume left identity nonce n v z
  after_all {left} {n} m same enough ring_nonce_is notices s =
      record {
        on_sound = λ h. absurd (omega arith);
        on_nonce = λ h. absurd (omega arith);
        on_notices = λ h. absurd (omega arith);
        over_sound = λ h. s.silent;
        over_nonce = λ h. s.ring_nonce_is ∙ ring_nonce_is;
        over_notices = λ h. s.notices ∙ notices;
      }

-- One act of the list, and then the rest of it, with what is left of the ring or in silence
module _ (mask volume : ℕ) (identity nonce : List ℕ) (a : Act) (l : List Act) (v z : World) where
  passing : {left : ℕ} (m : ℕ) → tenths_of a ≡ m → Later m v (ran slept a v) → 1 ≤ left → Sounds mask volume left identity nonce v
      → ((less : ℕ) → Sounds mask volume less identity nonce (ran slept a v) → Goes mask volume less identity nonce (tenths_in l) (ran slept a v) z)
      → ((ran slept a v).unit.sound ≡ Sound.Silent → Silence (ran slept a v) z)
      → Goes mask volume left identity nonce (tenths_in (a ∷ l)) v z
  passing {left} m t i some s rest silence = go (dec_lt m left)
    where
      total : tenths_in (a ∷ l) ≡ m + tenths_in l
      total = begins a l ∙ ap (λ (x : ℕ). x + tenths_in l) t

      go : Dec (m < left) → Goes mask volume left identity nonce (tenths_in (a ∷ l)) v z
      go (yes more) =
          let o = ringing_call m v.unit s.ringing more in
          let none : (ran slept a v).notifications ≡ v.notifications = i.notices ∙ rw (o.nothing, append-nil) in
          after_some mask volume identity nonce a v z (tenths_in l) m total more i.count (ap unfailed none)
          (rest (left - m)
          (record {
            ringing = ap (λ (x : TagUnit). x.sound) i.unit ∙ o.sounds;
            key = ap (λ (x : TagUnit). x.identity.bytes) i.unit ∙ ap (λ (x : Identity). x.bytes) o.rest.4 ∙ s.key;
            tagged = ap (λ (x : TagUnit). x.ring_nonce) i.unit ∙ o.nonce ∙ s.tagged;
          }))
      go (no enough) =
          let all : left ≤ m = omega arith in
          let o = ending_call m v.unit s.ringing some all in
          after_all mask volume identity nonce a v z (tenths_in l) m total all
          (ap (λ (x : TagUnit). x.ring_nonce) i.unit ∙ o.nonce)
          (ap unfailed i.notices
          ∙ unfailed_append v.notifications _
          ∙ rw (o.notice, o.ended, s.key, s.tagged) (ap (λ (l : List Notification). unfailed v.notifications ++ l) (timeout_heard identity nonce (v.count + left))))
          (silence (ap (λ (x : TagUnit). x.sound) i.unit ∙ o.silent))

  ring_turn : {left : ℕ} → Turn a v → 1 ≤ left → Sounds mask volume left identity nonce v
      → ((less : ℕ) → Sounds mask volume less identity nonce (ran slept a v) → Goes mask volume less identity nonce (tenths_in l) (ran slept a v) z)
      → ((ran slept a v).unit.sound ≡ Sound.Silent → Silence (ran slept a v) z)
      → Goes mask volume left identity nonce (tenths_in (a ∷ l)) v z
  ring_turn {left} (idle t i) some s rest silence =
      let none : tenths_in (a ∷ l) ≡ tenths_in l = begins a l ∙ ap (λ (x : ℕ). x + tenths_in l) t ∙ omega arith in
      after_idle mask volume identity nonce a v z (tenths_in l) none i
      (rest left
      (record {
        ringing = i.sound ∙ s.ringing;
        key = ap (λ (x : Identity). x.bytes) i.identity ∙ s.key;
        tagged = i.ring_nonce_is ∙ s.tagged;
      }))
  ring_turn (later m t i) some s rest silence = passing m t i some s rest silence

pub ring_run : (mask volume : ℕ) (identity nonce : List ℕ) (l : List Act) (v : World) (left : ℕ) → well_formed v.unit ≡ true
    → Sounds mask volume left identity nonce v → NoneIn Disturbs l v.unit
    → Goes mask volume left identity nonce (tenths_in l) v (runs slept l v)
unfolding runs
ring_run mask volume identity nonce [] v left w s free =
    let least = (ring_held (lines v.unit w) s.ringing).least in
    let all : left - 0 ≡ left = omega arith in
    record {
      on_sound = λ h. rw all s.ringing;
      on_nonce = λ h. s.tagged;
      on_notices = λ h. refl;
      over_sound = λ h. absurd (omega arith);
      over_nonce = λ h. absurd (omega arith);
      over_notices = λ h. absurd (omega arith);
    }
ring_run mask volume identity nonce (a ∷ l) v left w s free =
    ring_turn mask volume identity nonce a l v (runs slept l (ran slept a v)) (turn a v w free.0) (ring_held (lines v.unit w) s.ringing).least s
    (λ less there. ring_run mask volume identity nonce l (ran slept a v) less (next_formed a v w) there (next_free a l v free.1))
    (λ silent. silent_run l (ran slept a v) (next_formed a v w) silent (next_free a l v free.1))
