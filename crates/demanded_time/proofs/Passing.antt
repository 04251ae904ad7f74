-- The tag's time is the plain tag's: any number of tenths in one call come to what as many single tenths come to. By induction on the
-- tenths. A call ends at most one ring, since a ring that has ended stays silent: so what the call reports is all that the plain tag
-- notified.
use Prim.Native.Nat.{ℕ, zero, suc, ◌+◌}
use mathlib.Core.Path.{◌≡◌, refl, sym, ap, ◌∙◌}
use mathlib.Core.Bool.{Bool, true, false, cond, false≢true}
use mathlib.Core.List.{List, [], ◌++◌, append-nil}
use native.Mathlib.Omega.{arith}
use Rattle.laws.specs.Answer.{gives}
use Rattle.unit.specs.declared.TagUnit.{TagUnit}
use Rattle.unit.specs.declared.Sound.{Sound}
use Rattle.unit.specs.WellFormed.{well_formed}
use Rattle.unit.specs.Outcome.{Outcome, refusing, formed}
use Rattle.tag.specs.Calls.{guarded, elapsed, waits, act}
use Rattle.time.specs.Time.{ends_next, ring_on, one_tenth, timeout_notice, after_tenth, tenths}
use Rattle.demanded_answers.specs.History.{step}
use Rattle.demanded_time.specs.Time.{World, Notification, at, bytes_given, roomy, slept, tenth_on, tenths_on, waited}
use Rattle.demanded_refusals.proofs.Tenths.{after_unit}
use Rattle.demanded_time.proofs.Room.{served, unserved}

-- A ring that has ended stays silent
tenth_sound : (u : TagUnit) → u.sound ≡ Sound.Silent → (one_tenth u).sound ≡ Sound.Silent
unfolding one_tenth ring_on
tenth_sound u e = rw e

pub end_sound : (u : TagUnit) → ends_next u.sound ≡ true → (one_tenth u).sound ≡ Sound.Silent
unfolding one_tenth ring_on
end_sound u e = rw e

-- After some tenths: nothing reported yet, or silence
data Reported (o : Outcome) : Type 0 where
  nothing : o.result ≡ gives [] → Reported o
  silent : o.unit.sound ≡ Sound.Silent → Reported o

module _ (n : ℕ) (o : Outcome) where
  after_end : ends_next o.unit.sound ≡ true
      → after_tenth n o ≡ record { unit = one_tenth o.unit; result = gives (timeout_notice o.unit); ended = suc n }
  unfolding after_tenth
  after_end e = rw e

  pub after_none : ends_next o.unit.sound ≡ false
      → after_tenth n o ≡ record { unit = one_tenth o.unit; result = o.result; ended = o.ended }
  unfolding after_tenth
  after_none e = rw e

  next_reported : Reported o → Reported (after_tenth n o)
  next_reported r = go (ends_next o.unit.sound) refl r
    where
      go : (b : Bool) → ends_next o.unit.sound ≡ b → Reported o → Reported (after_tenth n o)
      go true e r = silent (rw (after_end e) (end_sound o.unit e))
      go false e (nothing h) = nothing (rw (after_none e) h)
      go false e (silent h) = silent (rw (after_none e) (tenth_sound o.unit h))

reported : (n : ℕ) (u : TagUnit) → Reported (tenths n u)
unfolding tenths
reported zero u = nothing refl
reported (suc n) u = next_reported n (tenths n u) (reported n u)

nothing_before_lem : {o : Outcome} → Reported o → ends_next o.unit.sound ≡ true → o.result ≡ gives []
nothing_before_lem (nothing h) e = h
nothing_before_lem (silent h) e = absurd (false≢true (rw h at e))

-- The world after a call of n tenths, and after n single tenths
world_same : {v w : World} → v.unit ≡ w.unit → v.count ≡ w.count → v.answers ≡ w.answers → v.notifications ≡ w.notifications
    → v ≡ w
world_same p q r s = λ i. record { unit = p i; count = q i; answers = r i; notifications = s i }

abbrev reporting : Outcome → ℕ → List Notification
reporting o count = at (count + o.ended) (bytes_given o.result)

abbrev pub passed : ℕ → World → World
passed n w =
    record {
      unit = (tenths n w.unit).unit;
      count = w.count + n;
      answers = w.answers;
      notifications = w.notifications ++ reporting (tenths n w.unit) w.count;
    }

-- the notification of one more tenth, after n
next_notified : (n count : ℕ) (o : Outcome) (ns : List Notification) → Reported o
    → (ns ++ reporting o count) ++ at (suc (count + n)) (cond (ends_next o.unit.sound) (timeout_notice o.unit) [])
    ≡ ns ++ reporting (after_tenth n o) count
next_notified n count o ns r = go (ends_next o.unit.sound) refl
  where
    go : (b : Bool) → ends_next o.unit.sound ≡ b
        → (ns ++ reporting o count) ++ at (suc (count + n)) (cond b (timeout_notice o.unit) []) ≡ ns ++ reporting (after_tenth n o) count
    go true e =
        let here : suc (count + n) ≡ count + suc n = omega arith in
        rw (after_end n o e, nothing_before_lem r e, append-nil, here)
    go false e = rw (after_none n o e, append-nil)

next_passed : (n : ℕ) (w : World) → tenth_on (passed n w) ≡ passed (suc n) w
unfolding tenth_on tenths
next_passed n w =
    world_same (sym (after_unit n (tenths n w.unit))) (omega arith) refl
    (next_notified n w.count (tenths n w.unit) w.notifications (reported n w.unit))

pub single : (n : ℕ) (w : World) → tenths_on n w ≡ passed n w
unfolding tenths_on tenths
single zero w = world_same refl (omega arith) refl (sym (append-nil w.notifications))
single (suc n) w = ap tenth_on (single n w) ∙ next_passed n w

-- A call of `elapsed` on a well-formed unit: with room all the tenths, without it nothing
module _ (n room : ℕ) (u : TagUnit) where
  with_room : well_formed u ≡ true → roomy room ≡ true → step (waits n room) u ≡ tenths n u
  unfolding act elapsed guarded formed
  with_room h e = served room u (tenths n u) e ∙ rw h

  without_room : roomy room ≡ false → step (waits n room) u ≡ refusing 6 u
  unfolding act elapsed guarded
  without_room e = unserved room u (tenths n u) e

pub slept_waited : (n room : ℕ) (w : World) → well_formed w.unit ≡ true → slept n room w ≡ waited n room w
unfolding slept waited
slept_waited n room w h = go (roomy room) refl
  where
    go : (b : Bool) → roomy room ≡ b → slept n room w ≡ waited n room w
    go true e = rw (e, with_room n room w.unit h e, single n w)
    go false e =
        rw (e, without_room n room w.unit e)
        (world_same refl (omega arith) refl (append-nil w.notifications))
