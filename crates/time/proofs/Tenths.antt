-- Any number of tenths at once: n times the one-tenth rule is the closed form that the code computes. By induction on the number: the
-- clock and the consent go on by one, a ring has one tenth less, and after its end the unit is silent and stays so.
use Prim.Native.Nat.{ℕ, zero, suc, ◌+◌, ◌-◌, ◌/◌, ◌%◌, ◌^◌, ◌≤◌, ◌<◌}
use mathlib.Core.Path.{◌≡◌, refl, sym, ap, ◌∙◌}
use mathlib.Core.Bool.{true, false}
use mathlib.Core.List.{List, []}
use native.Mathlib.Omega.{arith}
use native.Mathlib.Decide.{dec_lt}
use lib.ListN.{replicate}
use borrow.Author.Tests.{eq-eqb, ne_eqb, le-leb, lt-leb}
use Rattle.laws.specs.Answer.{gives}
use Rattle.unit.specs.declared.TagUnit.{TagUnit}
use Rattle.unit.specs.declared.Clock.{Clock}
use Rattle.unit.specs.declared.Sound.{Sound}
use Rattle.unit.specs.Change.{with_sound, silenced}
use Rattle.unit.specs.Outcome.{Outcome, giving}
use Rattle.time.specs.Time.{clock_on, ends_next, ring_on, one_tenth, timeout_notice, after_tenth, tenths}
use Rattle.time.specs.Later.{clock_later, unit_later}

clock_none : (c : Clock) → c.tenth ≤ 9 → c.seconds < 2 ^ 32 → clock_later 0 c ≡ c
unfolding clock_later
clock_none c t s =
    let seconds : (c.seconds + (c.tenth + 0) / 10) % 2 ^ 32 ≡ c.seconds = omega arith in
    let tenth : (c.tenth + 0) % 10 ≡ c.tenth = omega arith in
    rw (seconds, tenth)

-- The tenth turns from 9 to 0, or goes on
module _ (n : ℕ) (c : Clock) where
  clock_turns : (c.tenth + n) % 10 ≡ 9 → clock_on (clock_later n c) ≡ clock_later (suc n) c
  unfolding clock_on clock_later
  clock_turns h =
      let seconds : ((c.seconds + (c.tenth + n) / 10) % 2 ^ 32 + 1) % 2 ^ 32 ≡ (c.seconds + (c.tenth + suc n) / 10) % 2 ^ 32
      = omega arith in
      let tenth : (c.tenth + suc n) % 10 ≡ 0 = omega arith in
      rw (eq-eqb ((c.tenth + n) % 10) 9 h, seconds, tenth)

  clock_goes : ((c.tenth + n) % 10 ≡ 9 → ⊥) → clock_on (clock_later n c) ≡ clock_later (suc n) c
  unfolding clock_on clock_later
  clock_goes h =
      let seconds : (c.seconds + (c.tenth + n) / 10) % 2 ^ 32 ≡ (c.seconds + (c.tenth + suc n) / 10) % 2 ^ 32 = omega arith in
      let tenth : (c.tenth + n) % 10 + 1 ≡ (c.tenth + suc n) % 10 = omega arith in
      rw (ne_eqb ((c.tenth + n) % 10) 9 h, seconds, tenth)

  pub clock_next : clock_on (clock_later n c) ≡ clock_later (suc n) c
  clock_next = go (dec_lt ((c.tenth + n) % 10) 9)
    where
      go : Dec ((c.tenth + n) % 10 < 9) → clock_on (clock_later n c) ≡ clock_later (suc n) c
      go (yes h) = clock_goes (λ e. omega arith)
      go (no h) = clock_turns (omega arith)

-- The unit at the call's start, and one tenth on: `next` is what the rule makes of the sound
module _ (u : TagUnit) where
  later_none : u.clock.tenth ≤ 9 → u.clock.seconds < 2 ^ 32 → unit_later 0 u ≡ u
  unfolding unit_later
  later_none t s = let none : u.consent - 0 ≡ u.consent = omega arith in rw (clock_none u.clock t s, none)

  later_next : (n : ℕ) (next : Sound) (nonce : List ℕ) (v : TagUnit) → ring_on v ≡ with_sound next nonce (unit_later n u)
      → v.clock ≡ clock_later n u.clock → v.consent ≡ u.consent - n → one_tenth v ≡ with_sound next nonce (unit_later (suc n) u)
  unfolding one_tenth unit_later
  later_next n next nonce v r c k =
      let less : u.consent - n - 1 ≡ u.consent - suc n = omega arith in
      rw (r, c, k, clock_next n u.clock, less)

-- What a tenth does to an outcome: no ring ends in it, or one does
goes_on : (n : ℕ) (o : Outcome) → ends_next o.unit.sound ≡ false
    → after_tenth n o ≡ record { unit = one_tenth o.unit; result = o.result; ended = o.ended }
unfolding after_tenth
goes_on n o e = rw e

ends : (n : ℕ) (o : Outcome) → ends_next o.unit.sound ≡ true
    → after_tenth n o ≡ record { unit = one_tenth o.unit; result = gives (timeout_notice o.unit); ended = suc n }
unfolding after_tenth
ends n o e = rw e

-- What the rule makes of a sound
module _ (v : TagUnit) where
  silent_on : v.sound ≡ Sound.Silent → ring_on v ≡ v
  unfolding ring_on
  silent_on e = rw e

  ring_on_lem : {mask volume left : ℕ} → v.sound ≡ Sound.Ringing mask volume left → 1 < left
      → ring_on v ≡ with_sound (Sound.Ringing mask volume (left - 1)) v.ring_nonce v
  unfolding ring_on
  ring_on_lem {left = left} e h = rw (e, lt-leb left 1 h)

  ring_off : {mask volume left : ℕ} → v.sound ≡ Sound.Ringing mask volume left → left ≤ 1 → ring_on v ≡ silenced v
  unfolding ring_on
  ring_off {left = left} e h = rw (e, le-leb left 1 h)

  ends_not : {mask volume left : ℕ} → v.sound ≡ Sound.Ringing mask volume left → 1 < left → ends_next v.sound ≡ false
  ends_not {left = left} e h = rw e (lt-leb left 1 h)

  ends_now : {mask volume left : ℕ} → v.sound ≡ Sound.Ringing mask volume left → left ≤ 1 → ends_next v.sound ≡ true
  ends_now {left = left} e h = rw e (le-leb left 1 h)

-- A unit that rings, n tenths later, before its end and after it
abbrev pub ringing : ℕ → ℕ → ℕ → ℕ → TagUnit → TagUnit
ringing mask volume left n u = with_sound (Sound.Ringing mask volume (left - n)) u.ring_nonce (unit_later n u)

abbrev pub rung_out : ℕ → ℕ → TagUnit → Outcome
rung_out left n u =
    record { unit = silenced (unit_later n u); result = gives (timeout_notice u); ended = left }

-- No tenth, and one more
tenths_none : (u : TagUnit) → tenths 0 u ≡ giving [] u
unfolding tenths
tenths_none u = refl

tenths_more : (n : ℕ) (u : TagUnit) {o : Outcome} → tenths n u ≡ o → tenths (suc n) u ≡ after_tenth n o
unfolding tenths
tenths_more n u e = ap (after_tenth n) e

-- One tenth more of each of the three closed forms
module _ (u : TagUnit) (n : ℕ) where
  silent_next : u.sound ≡ Sound.Silent → after_tenth n (giving [] (unit_later n u)) ≡ giving [] (unit_later (suc n) u)
  unfolding unit_later
  silent_next e =
      goes_on n (giving [] (unit_later n u)) (ap ends_next e)
      ∙ ap (giving []) (later_next u n u.sound u.ring_nonce (unit_later n u) (silent_on (unit_later n u) e) refl refl)

  ringing_next : (mask volume left : ℕ) → suc n < left
      → after_tenth n (giving [] (ringing mask volume left n u)) ≡ giving [] (ringing mask volume left (suc n) u)
  unfolding unit_later
  ringing_next mask volume left h =
      let v = ringing mask volume left n u in
      let more : 1 < left - n = omega arith in
      let less : left - n - 1 ≡ left - suc n = omega arith in
      goes_on n (giving [] v) (ends_not v refl more)
      ∙ ap (giving [])
      (rw (← less)
      (later_next u n (Sound.Ringing mask volume (left - n - 1)) u.ring_nonce v (ring_on_lem v refl more) refl refl))

  ending_next : (mask volume left : ℕ) → suc n ≡ left
      → after_tenth n (giving [] (ringing mask volume left n u)) ≡ rung_out left (suc n) u
  unfolding unit_later timeout_notice
  ending_next mask volume left e =
      let v = ringing mask volume left n u in
      let one : left - n ≤ 1 = omega arith in
      ends n (giving [] v) (ends_now v refl one)
      ∙ rw (later_next u n Sound.Silent (replicate 8 0) v (ring_off v refl one) refl refl, e)

  ended_next : (left : ℕ) → after_tenth n (rung_out left n u) ≡ rung_out left (suc n) u
  unfolding unit_later
  ended_next left =
      let v = silenced (unit_later n u) in
      goes_on n (rung_out left n u) refl
      ∙ rw (later_next u n Sound.Silent (replicate 8 0) v (silent_on v refl) refl refl)

-- The three closed forms: silent, ringing on, and rung out
module _ (u : TagUnit) (tenth : u.clock.tenth ≤ 9) (seconds : u.clock.seconds < 2 ^ 32) where
  pub silent_tenths : u.sound ≡ Sound.Silent → (n : ℕ) → tenths n u ≡ giving [] (unit_later n u)
  silent_tenths e zero = tenths_none u ∙ ap (giving []) (sym (later_none u tenth seconds))
  silent_tenths e (suc n) = tenths_more n u (silent_tenths e n) ∙ silent_next u n e

  module _ {mask volume left : ℕ} (rings : u.sound ≡ Sound.Ringing mask volume left) where
    ringing_none : ringing mask volume left 0 u ≡ u
    ringing_none = let all : left - 0 ≡ left = omega arith in rw (all, later_none u tenth seconds, ← rings)

    pub ringing_tenths : (n : ℕ) → n < left → tenths n u ≡ giving [] (ringing mask volume left n u)
    ringing_tenths zero h = tenths_none u ∙ ap (giving []) (sym ringing_none)
    ringing_tenths (suc n) h = tenths_more n u (ringing_tenths n (omega arith)) ∙ ringing_next u n mask volume left h

    last_tenth : (n : ℕ) → suc n ≡ left → tenths (suc n) u ≡ rung_out left (suc n) u
    last_tenth n e = tenths_more n u (ringing_tenths n (omega arith)) ∙ ending_next u n mask volume left e

    pub ended_tenths : (n : ℕ) → 1 ≤ left → left ≤ n → tenths n u ≡ rung_out left n u
    ended_tenths zero o h = absurd (omega arith)
    ended_tenths (suc n) o h = go (dec_lt n left) (ended_tenths n o)
      where
        go : Dec (n < left) → (left ≤ n → tenths n u ≡ rung_out left n u) → tenths (suc n) u ≡ rung_out left (suc n) u
        go (yes p) ih = last_tenth n (omega arith)
        go (no q) ih = tenths_more n u (ih (omega arith)) ∙ ended_next u n left
