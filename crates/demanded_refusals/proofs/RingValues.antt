-- The values of 0x05: they fit, as four facts, exactly if the test holds; and where they do not, they are illegal for a reason of the list.
use Prim.Native.Nat.{ℕ, ◌+◌, ◌*◌, ◌-◌, ◌^◌, ◌≤◌, ◌<◌}
use mathlib.Core.Path.{◌≡◌, sym, ap, ◌∙◌}
use mathlib.Core.Bool.{true, false, not, ◌&&◌, ◌||◌}
use mathlib.Core.List.{List, [], ◌∷◌}
use mathlib.Core.Logic.{◌⊎◌, inl, inr}
use native.Mathlib.Omega.{arith}
use lib.Dec.{eqb, ltb, leb}
use lib.Pow.{pow_mono, ones_lt}
use borrow.Author.Tests.{eqb-true, eqb-false, eq-eqb, ne_eqb, ltb-true, ltb-false, leb-true, leb-false, le-leb, not-true}
use Rattle.laws.specs.Bytes.{number, number_after}
use Rattle.laws.proofs.Flags.{true_or_false, and_left, and_right, both, or_cases, or_left, or_right, clash, fails}
use Rattle.unit.specs.declared.Settings.{Settings}
use Rattle.unit.specs.Ringable.{inside}
use Rattle.ring_values.specs.RingValues.{asked_timeout, ring_mask, all_of_none, ring_legal}
use Rattle.demanded_refusals.specs.Refused.{IllegalRing, outside, nothing, too_loud, no_time, too_long}
use Rattle.unit.proofs.Masks.{inside_below, below_inside}
use Rattle.demanded_answers.proofs.MaskBits.{no_bit, bit_from}

-- the ringable mask, of none and of some
whole_zero : (components : ℕ) → 2 ^ components - 1 ≡ 0 → components ≡ 0
whole_zero components e = go (true_or_false (eqb components 0))
  where
    go : (eqb components 0 ≡ true) ⊎ (eqb components 0 ≡ false) → components ≡ 0
    go (inl h) = eqb-true components 0 h
    go (inr h) =
        let some = eqb-false components 0 h in
        let two : 2 ≤ 2 ^ components = pow_mono {i = 1} {j = components} (omega arith) in
        absurd (omega arith)

module _ (s : Settings) (mask high low volume : ℕ) where
  abbrev values : List ℕ
  values = mask ∷ high ∷ low ∷ volume ∷ []

  abbrev timeout : ℕ
  timeout = 256 * high + low

  record Fits : Type 0 where
    pub some_parts : mask ≡ 0xFF → s.components ≡ 0 → ⊥
    pub within : (mask ≡ 0xFF → ⊥) → mask < 2 ^ s.components
    pub quiet : volume ≤ 3
    pub least : (mask ≡ 0 → ⊥) → 1 ≤ timeout
    pub most : (mask ≡ 0 → ⊥) → timeout ≤ 6000

  timeout_is : asked_timeout values ≡ timeout
  unfolding number number_after
  timeout_is = omega arith

  mask_whole : mask ≡ 0xFF → ring_mask s values ≡ 2 ^ s.components - 1
  mask_whole e = rw (eq-eqb mask 0xFF e)

  mask_asked : (mask ≡ 0xFF → ⊥) → ring_mask s values ≡ mask
  mask_asked ne = rw (ne_eqb mask 0xFF ne)

  -- From the test
  module _ (h : ring_legal s values ≡ true) where
    rest : not (all_of_none s values) && (leb volume 3 && (eqb (ring_mask s values) 0 || (leb 1 (asked_timeout values) && leb (asked_timeout values) 6000))) ≡ true
    unfolding ring_legal
    rest = and_right (inside (ring_mask s values) s.components) _ h

    within_test : inside (ring_mask s values) s.components ≡ true
    unfolding ring_legal
    within_test = and_left _ _ h

    loud : leb volume 3 && (eqb (ring_mask s values) 0 || (leb 1 (asked_timeout values) && leb (asked_timeout values) 6000)) ≡ true
    loud = and_right (not (all_of_none s values)) _ rest

    some_parts_lem : mask ≡ 0xFF → s.components ≡ 0 → ⊥
    some_parts_lem e c = clash (both (eq-eqb mask 0xFF e) (rw c)) (not-true (all_of_none s values) (and_left _ _ rest))

    not_stopped : (mask ≡ 0 → ⊥) → ring_mask s values ≡ 0 → ⊥
    not_stopped ne e = go (true_or_false (eqb mask 0xFF))
      where
        go : (eqb mask 0xFF ≡ true) ⊎ (eqb mask 0xFF ≡ false) → ⊥
        go (inl k) =
            let all = eqb-true mask 0xFF k in
            some_parts_lem all (whole_zero s.components (sym (mask_whole all) ∙ e))
        go (inr k) = ne (sym (mask_asked (eqb-false mask 0xFF k)) ∙ e)

    timed : (mask ≡ 0 → ⊥) → leb 1 (asked_timeout values) && leb (asked_timeout values) 6000 ≡ true
    timed ne = go (or_cases _ _ (and_right (leb volume 3) _ loud))
      where
        go : (eqb (ring_mask s values) 0 ≡ true) ⊎ (leb 1 (asked_timeout values) && leb (asked_timeout values) 6000 ≡ true)
            → leb 1 (asked_timeout values) && leb (asked_timeout values) 6000 ≡ true
        go (inl e) = absurd (not_stopped ne (eqb-true (ring_mask s values) 0 e))
        go (inr e) = e

    legal_fits : Fits
    legal_fits =
        record {
          some_parts = some_parts_lem;
          within = λ ne. inside_below mask s.components (rw (mask_asked ne) at within_test);
          quiet = leb-true volume 3 (and_left _ _ loud);
          least = λ ne. omega (arith, timeout_is, leb-true 1 (asked_timeout values) (and_left _ _ (timed ne)));
          most = λ ne. omega (arith, timeout_is, leb-true (asked_timeout values) 6000 (and_right (leb 1 (asked_timeout values)) _ (timed ne)));
        }

  -- To the test
  module _ (f : Fits) where
    parts_within : inside (ring_mask s values) s.components ≡ true
    parts_within = go (true_or_false (eqb mask 0xFF))
      where
        go : (eqb mask 0xFF ≡ true) ⊎ (eqb mask 0xFF ≡ false) → inside (ring_mask s values) s.components ≡ true
        go (inl e) =
            below_inside (ring_mask s values) s.components
            (rw (mask_whole (eqb-true mask 0xFF e)) (ones_lt s.components))
        go (inr e) =
            let ne = eqb-false mask 0xFF e in
            below_inside (ring_mask s values) s.components (rw (mask_asked ne) (f.within ne))

    not_none : all_of_none s values ≡ false
    not_none =
        fails (all_of_none s values)
        (λ h. f.some_parts (eqb-true mask 0xFF (and_left _ _ h)) (whole_zero s.components (eqb-true _ _ (and_right (eqb mask 0xFF) _ h))))

    in_time : eqb (ring_mask s values) 0 || (leb 1 (asked_timeout values) && leb (asked_timeout values) 6000) ≡ true
    in_time = go (true_or_false (eqb mask 0))
      where
        go : (eqb mask 0 ≡ true) ⊎ (eqb mask 0 ≡ false)
            → eqb (ring_mask s values) 0 || (leb 1 (asked_timeout values) && leb (asked_timeout values) 6000) ≡ true
        go (inl e) =
            let stop = eqb-true mask 0 e in
            or_left _ (eq-eqb (ring_mask s values) 0 (mask_asked (omega arith) ∙ stop))
        go (inr e) =
            let ne = eqb-false mask 0 e in
            or_right (eqb (ring_mask s values) 0)
            (both (le-leb 1 (asked_timeout values) (omega (arith, timeout_is, f.least ne)))
            (le-leb (asked_timeout values) 6000 (omega (arith, timeout_is, f.most ne))))

    fits_legal : ring_legal s values ≡ true
    unfolding ring_legal
    fits_legal = both parts_within (both (ap not not_none) (both (le-leb volume 3 f.quiet) in_time))

  -- Values that do not fit are illegal for a reason, and those that are illegal do not fit
  abbrev Faulty : Type 0
  Faulty = IllegalRing s.components mask high low volume

  unfit : Faulty → Fits → ⊥
  unfit (outside i ne h bit) f = omega (arith, bit, no_bit mask s.components i (f.within ne) h)
  unfit (nothing all none) f = f.some_parts all none
  unfit (too_loud h) f = omega (arith, f.quiet)
  unfit (no_time ne h) f = omega (arith, f.least ne)
  unfit (too_long ne h) f = omega (arith, f.most ne)

  of_mask : Faulty ⊎ ((mask ≡ 0xFF → s.components ≡ 0 → ⊥) × ((mask ≡ 0xFF → ⊥) → mask < 2 ^ s.components))
  of_mask = go (true_or_false (eqb mask 0xFF)) (true_or_false (eqb s.components 0)) (true_or_false (ltb mask (2 ^ s.components)))
    where
      go : (eqb mask 0xFF ≡ true) ⊎ (eqb mask 0xFF ≡ false) → (eqb s.components 0 ≡ true) ⊎ (eqb s.components 0 ≡ false)
          → (ltb mask (2 ^ s.components) ≡ true) ⊎ (ltb mask (2 ^ s.components) ≡ false)
          → Faulty ⊎ ((mask ≡ 0xFF → s.components ≡ 0 → ⊥) × ((mask ≡ 0xFF → ⊥) → mask < 2 ^ s.components))
      go (inl e) (inl c) k = inl (nothing (eqb-true _ _ e) (eqb-true _ _ c))
      go (inl e) (inr c) k = inr ((λ all. eqb-false _ _ c), (λ ne. absurd (ne (eqb-true _ _ e))))
      go (inr e) c (inl k) = inr ((λ all. absurd (eqb-false _ _ e all)), (λ ne. ltb-true _ _ k))
      go (inr e) c (inr k) =
          let bit = bit_from mask s.components (ltb-false _ _ k) in
          inl (outside bit.0 (eqb-false _ _ e) bit.1 bit.2)

  of_time : Faulty ⊎ (((mask ≡ 0 → ⊥) → 1 ≤ timeout) × ((mask ≡ 0 → ⊥) → timeout ≤ 6000))
  of_time = go (true_or_false (eqb mask 0)) (true_or_false (eqb timeout 0)) (true_or_false (leb timeout 6000))
    where
      go : (eqb mask 0 ≡ true) ⊎ (eqb mask 0 ≡ false) → (eqb timeout 0 ≡ true) ⊎ (eqb timeout 0 ≡ false)
          → (leb timeout 6000 ≡ true) ⊎ (leb timeout 6000 ≡ false)
          → Faulty ⊎ (((mask ≡ 0 → ⊥) → 1 ≤ timeout) × ((mask ≡ 0 → ⊥) → timeout ≤ 6000))
      go (inl e) t k = inr ((λ ne. absurd (ne (eqb-true _ _ e))), (λ ne. absurd (ne (eqb-true _ _ e))))
      go (inr e) (inl t) k = inl (no_time (eqb-false _ _ e) (eqb-true _ _ t))
      go (inr e) (inr t) (inr k) = inl (too_long (eqb-false _ _ e) (leb-false _ _ k))
      go (inr e) (inr t) (inl k) = let some = eqb-false timeout 0 t in inr ((λ ne. omega arith), (λ ne. leb-true _ _ k))

  pub values_judged : Faulty ⊎ (ring_legal s values ≡ true)
  values_judged = go of_mask (true_or_false (leb volume 3)) of_time
    where
      go : Faulty ⊎ ((mask ≡ 0xFF → s.components ≡ 0 → ⊥) × ((mask ≡ 0xFF → ⊥) → mask < 2 ^ s.components))
          → (leb volume 3 ≡ true) ⊎ (leb volume 3 ≡ false)
          → Faulty ⊎ (((mask ≡ 0 → ⊥) → 1 ≤ timeout) × ((mask ≡ 0 → ⊥) → timeout ≤ 6000))
          → Faulty ⊎ (ring_legal s values ≡ true)
      go (inl e) v t = inl e
      go (inr m) (inr v) t = inl (too_loud (leb-false _ _ v))
      go (inr m) (inl v) (inl t) = inl t
      go (inr m) (inl v) (inr t) =
          inr (fits_legal (record { some_parts = m.0; within = m.1; quiet = leb-true _ _ v; least = t.0; most = t.1 }))

  pub values_refused : Faulty → ring_legal s values ≡ false
  values_refused e = fails (ring_legal s values) (λ h. unfit e (legal_fits h))
