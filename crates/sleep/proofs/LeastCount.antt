-- The least of the tenths left of a ring, of consent and of the window is the number of the next tenth at which time alone does something. Before it
-- the closed forms of Tenths say what the unit is, and none of the four can happen; at it the count that was the least runs out.
use Prim.Native.Nat.{ℕ, suc, ◌+◌, ◌-◌, ◌*◌, ◌/◌, ◌%◌, ◌^◌, ◌≤◌, ◌<◌}
use mathlib.Core.Path.{◌≡◌, refl, sym, ap, ◌∙◌}
use mathlib.Core.Bool.{Bool, true, false, cond}
use mathlib.Core.Logic.{◌⊎◌, inl, inr}
use native.Mathlib.Omega.{arith}
use lib.Dec.{eqb, ltb}
use borrow.Author.Tests.{eqb-true, eqb-false, ltb-true, ltb-false, lt-leb, le-leb}
use Rattle.sizes.specs.Sizes.{window, window_length}
use Rattle.unit.specs.declared.TagUnit.{TagUnit}
use Rattle.unit.specs.declared.Clock.{Clock}
use Rattle.unit.specs.declared.Sound.{Sound}
use Rattle.unit.specs.WellFormed.{well_formed}
use Rattle.unit.proofs.Lines.{Lines, lines, ring_held}
use Rattle.unit.specs.Outcome.{Outcome}
use Rattle.time.specs.Time.{clock_on, ring_on, one_tenth, tenths}
use Rattle.time.specs.Later.{clock_later, unit_later}
use Rattle.sleep.specs.Counts.{window_left, or_sooner, left_of, soonest_of}
use Rattle.sleep.specs.Sleep.{Happens, ring_ends, consent_ends, window_changes, seconds_return, later_by, Soonest}
use Rattle.time.proofs.Tenths.{clock_next, ringing, silent_tenths, ringing_tenths}

-- ---- the window

module _ (s : ℕ) (small : s < 2 ^ 32) where
  -- so many seconds on, the clock has not returned, and the window is the same
  on_by : (k : ℕ) → k < 1024 - s % 1024 → (s + k) % 2 ^ 32 ≡ s + k
  on_by k h = omega arith

  same_window : (k : ℕ) → k < 1024 - s % 1024 → window ((s + k) % 2 ^ 32) ≡ window s
  same_window k h = let e = on_by k h in let q : (s + k) / 1024 ≡ s / 1024 = omega arith in rw (e, q)

  -- at the end of the window it is another: the next, or the first
  next_window : window ((s + (1024 - s % 1024)) % 2 ^ 32) ≡ window s → ⊥
  next_window h = omega arith

-- ---- what a unit is m tenths later, and a tenth after that

record At (u : TagUnit) (m : ℕ) (v : TagUnit) : Type 0 where
  seconds : v.clock.seconds ≡ (u.clock.seconds + (u.clock.tenth + m) / 10) % 2 ^ 32
  seconds_next : (one_tenth v).clock.seconds ≡ (u.clock.seconds + (u.clock.tenth + suc m) / 10) % 2 ^ 32
  consent : v.consent ≡ u.consent - m
  consent_next : (one_tenth v).consent ≡ u.consent - m - 1
  goes_on : suc m < left_of u.sound → (one_tenth v).sound ≡ Sound.Silent → ⊥
  quiet : left_of u.sound ≡ 0 → v.sound ≡ Sound.Silent
  runs_out : left_of u.sound ≡ suc m → (v.sound ≡ Sound.Silent → ⊥) × ((one_tenth v).sound ≡ Sound.Silent)

never_silent : {mask volume left : ℕ} → Sound.Ringing mask volume left ≡ Sound.Silent → ⊥
never_silent h = let z : ◌≡◌ {A = ℕ} 0 1 = cc in omega arith

module _ (u : TagUnit) (tenth : u.clock.tenth ≤ 9) (small : u.clock.seconds < 2 ^ 32) where
  at_silent : u.sound ≡ Sound.Silent → (m : ℕ) → At u m (later_by m u)
  unfolding one_tenth unit_later clock_later ring_on
  at_silent e m =
      rw (ap (λ (o : Outcome). o.unit) (silent_tenths u tenth small e m))
      (record {
        seconds = refl;
        seconds_next = ap (λ (c : Clock). c.seconds) (clock_next m u.clock);
        consent = refl;
        consent_next = refl;
        goes_on = λ h. absurd (omega (arith, ap left_of e));
        quiet = λ _. e;
        runs_out = λ h. absurd (omega (arith, ap left_of e));
      })

  at_ringing : {mask volume left : ℕ} → u.sound ≡ Sound.Ringing mask volume left → (m : ℕ) → m < left → At u m (later_by m u)
  unfolding one_tenth unit_later clock_later ring_on
  at_ringing {mask} {volume} {left} e m h =
      rw (ap (λ (o : Outcome). o.unit) (ringing_tenths u tenth small e m h))
      (record {
        seconds = refl;
        seconds_next = ap (λ (c : Clock). c.seconds) (clock_next m u.clock);
        consent = refl;
        consent_next = refl;
        goes_on = λ more. (let x : 1 < left - m = omega (arith, ap left_of e) in rw (lt-leb (left - m) 1 x) never_silent);
        quiet = λ z. absurd (omega (arith, ap left_of e));
        runs_out = λ z. (let x : left - m ≤ 1 = omega (arith, ap left_of e) in (never_silent, rw (le-leb (left - m) 1 x)));
      })

-- ---- the least of two counts

positive : (n : ℕ) → (n ≡ 0 → ⊥) → 0 < n
positive n some = omega (arith, some)

record Least (count n x : ℕ) : Type 0 where
  below : x ≤ n
  within : 0 < count → x ≤ count
  which : (x ≡ n) ⊎ ((0 < count) × (x ≡ count))

least_of : (count n : ℕ) → Least count n (or_sooner count n)
least_of count n = go (eqb count 0) refl
  where
    less : (b : Bool) → ltb count n ≡ b → 0 < count → Least count n (cond b count n)
    less true e some = record { below = omega (arith, ltb-true count n e); within = λ _. omega arith; which = inr (some, refl) }
    less false e some = record { below = omega arith; within = λ _. omega (arith, ltb-false count n e); which = inl refl }

    go : (b : Bool) → eqb count 0 ≡ b → Least count n (cond b n (cond (ltb count n) count n))
    go true e = let none = eqb-true count 0 e in record { below = omega arith; within = λ some. omega arith; which = inl refl }
    go false e = let some = eqb-false count 0 e in less (ltb count n) refl (omega (arith, positive count some))

-- ---- the next thing

module _ (u : TagUnit) (small : u.clock.seconds < 2 ^ 32) (formed : well_formed u ≡ true) where
  l : Lines u
  l = lines u formed

  ring : Least (left_of u.sound) (or_sooner u.consent (window_left u.clock)) (soonest_of u)
  ring = least_of (left_of u.sound) (or_sooner u.consent (window_left u.clock))

  rest : Least u.consent (window_left u.clock) (or_sooner u.consent (window_left u.clock))
  rest = least_of u.consent (window_left u.clock)

  -- up to then the closed forms hold
  at : (m : ℕ) → m < soonest_of u → At u m (later_by m u)
  at m h = go u.sound refl
    where
      go : (x : Sound) → u.sound ≡ x → At u m (later_by m u)
      go Sound.Silent e = at_silent u l.tenth small e m
      go (Sound.Ringing mask volume left) e =
          let some = (ring_held l e).least in
          at_ringing u l.tenth small e m (omega (arith, ring.within (omega (arith, ap left_of e)), ap left_of e))

  -- seconds of the window that have passed m tenths later, and a tenth after that
  module _ (m : ℕ) (h : suc m < soonest_of u) where
    passed : (u.clock.tenth + m) / 10 < 1024 - u.clock.seconds % 1024
    passed = omega (arith, ring.below, rest.below, l.tenth)

    passed_next : (u.clock.tenth + suc m) / 10 < 1024 - u.clock.seconds % 1024
    passed_next = omega (arith, ring.below, rest.below, l.tenth)

    nothing : Happens (later_by m u) → ⊥
    nothing (ring_ends sounds silent) =
        let a = at m (omega arith) in
        let some = positive (left_of u.sound) (λ z. sounds (a.quiet z)) in
        a.goes_on (omega (arith, ring.within some)) silent
    nothing (consent_ends some none) =
        let a = at m (omega arith) in
        let more : 0 < u.consent = omega (arith, a.consent) in
        omega (arith, a.consent, a.consent_next, ring.below, rest.within more)
    nothing (window_changes changed) =
        let a = at m (omega arith) in
        changed
        (ap window a.seconds_next
        ∙ same_window u.clock.seconds small ((u.clock.tenth + suc m) / 10) passed_next
        ∙ sym (ap window a.seconds ∙ same_window u.clock.seconds small ((u.clock.tenth + m) / 10) passed))
    nothing (seconds_return some none) =
        let a = at m (omega arith) in
        let then = on_by u.clock.seconds small ((u.clock.tenth + m) / 10) passed in
        let next = on_by u.clock.seconds small ((u.clock.tenth + suc m) / 10) passed_next in
        omega (arith, a.seconds, a.seconds_next)

  first : 1 ≤ soonest_of u
  first = go ring.which rest.which
    where
      go : (soonest_of u ≡ or_sooner u.consent (window_left u.clock)) ⊎ ((0 < left_of u.sound) × (soonest_of u ≡ left_of u.sound))
          → (or_sooner u.consent (window_left u.clock) ≡ window_left u.clock) ⊎ ((0 < u.consent) × (or_sooner u.consent (window_left u.clock) ≡ u.consent))
          → 1 ≤ soonest_of u
      go (inr p) q = omega (arith, p.0, p.1)
      go (inl p) (inr q) = omega (arith, p, q.0, q.1)
      go (inl p) (inl q) = omega (arith, p, q, l.tenth)

  -- at the named tenth the count that was the least runs out
  module _ (m : ℕ) (e : soonest_of u ≡ suc m) where
    here : At u m (later_by m u)
    here = at m (omega arith)

    by_window : soonest_of u ≡ window_left u.clock → Happens (later_by m u)
    by_window w =
        let before : (u.clock.tenth + m) / 10 < 1024 - u.clock.seconds % 1024 = omega (arith, l.tenth) in
        let after : (u.clock.tenth + suc m) / 10 ≡ 1024 - u.clock.seconds % 1024 = omega (arith, l.tenth) in
        window_changes
        (λ same.
        next_window u.clock.seconds small
        (sym (ap window (here.seconds_next ∙ ap (λ (k : ℕ). (u.clock.seconds + k) % 2 ^ 32) after))
        ∙ same
        ∙ ap window here.seconds
        ∙ same_window u.clock.seconds small ((u.clock.tenth + m) / 10) before))

    happening : Happens (later_by m u)
    happening = go ring.which rest.which
      where
        go : (soonest_of u ≡ or_sooner u.consent (window_left u.clock)) ⊎ ((0 < left_of u.sound) × (soonest_of u ≡ left_of u.sound))
            → (or_sooner u.consent (window_left u.clock) ≡ window_left u.clock) ⊎ ((0 < u.consent) × (or_sooner u.consent (window_left u.clock) ≡ u.consent))
            → Happens (later_by m u)
        go (inr p) q = let out = here.runs_out (sym p.1 ∙ e) in ring_ends out.0 out.1
        go (inl p) (inr q) =
            let all : u.consent ≡ suc m = sym q.1 ∙ sym p ∙ e in
            consent_ends (omega (arith, here.consent)) (omega (arith, here.consent_next))
        go (inl p) (inl q) = by_window (p ∙ q)

  pub soonest_of_lem : Soonest u (soonest_of u)
  soonest_of_lem =
      let one = first in
      let last : soonest_of u ≡ suc (soonest_of u - 1) = omega arith in
      record {
        least = one;
        most = omega (arith, ring.below, rest.below);
        happens = happening (soonest_of u - 1) last;
        nothing_before = nothing;
      }
