-- A ring's values, test by test.
use Prim.Native.Nat.{ℕ, ◌+◌, ◌*◌, ◌≤◌, ◌<◌}
use mathlib.Core.Path.{◌≡◌, sym, ap, ◌∙◌}
use mathlib.Core.Bool.{Bool, true, false, ◌&&◌, ◌||◌}
use mathlib.Core.List.{List}
use native.Mathlib.Nat.{zero-add}
use native.Mathlib.Omega.{arith}
use lib.Dec.{eqb, leb}
use lib.ListN.{length, get_or}
use lib.Seq.{drop-cons}
use borrow.Author.Tests.{eq-eqb, ne_eqb, le-leb, lt-leb}
use Rattle.laws.specs.Bytes.{number, number_after}
use Rattle.laws.proofs.Flags.{and_fails_left}
use Rattle.sizes.specs.Sizes.{highest_volume, longest_ring}
use Rattle.unit.specs.Ringable.{inside}
use Rattle.unit.specs.declared.Settings.{Settings}
use Rattle.ring_values.specs.RingValues.{ring_data, asked_mask, asked_timeout, asked_volume, whole_mask, ring_mask, all_of_none, ring_legal}

-- the number of bytes 1 and 2
pub timeout_is : (a : List ℕ) → length a ≡ ring_data → get_or a 1 0 * 256 + get_or a 2 0 ≡ asked_timeout a
unfolding number number_after
timeout_is a h =
    rw (drop-cons a 1 0 (omega arith), drop-cons a 2 0 (omega arith))
    (ap (λ (n : ℕ). n * 256 + get_or a 2 0) (sym (zero-add (get_or a 1 0))))

-- The values of a ring, test by test
module _ (s : Settings) (a : List ℕ) {mask : ℕ} (is : mask ≡ ring_mask s a) where
  pub legal_outside : inside mask s.components ≡ false → ring_legal s a ≡ false
  unfolding ring_legal
  legal_outside unmet = and_fails_left _ (rw is at unmet)

  module _ (within : inside mask s.components ≡ true) where
    pub legal_nothing : all_of_none s a ≡ true → ring_legal s a ≡ false
    unfolding ring_legal
    legal_nothing none = rw (rw is at within, none)

    module _ (some : all_of_none s a ≡ false) where
      -- with a mask that is legal the volume and the timeout decide
      decided : {rest : Bool} → leb (asked_volume a) highest_volume && (eqb (ring_mask s a) 0 || (leb 1 (asked_timeout a) && leb (asked_timeout a) longest_ring)) ≡ rest
          → ring_legal s a ≡ rest
      unfolding ring_legal
      decided e = rw (rw is at within, some) e

      pub legal_volume : highest_volume < asked_volume a → ring_legal s a ≡ false
      legal_volume more = decided (and_fails_left _ (lt-leb _ _ more))

      module _ (quiet : asked_volume a ≤ highest_volume) where
        pub legal_stop : mask ≡ 0 → ring_legal s a ≡ true
        legal_stop none = decided (rw (le-leb (asked_volume a) highest_volume quiet, eq-eqb (ring_mask s a) 0 (sym is ∙ none)))

        module _ (sounds : mask ≡ 0 → ⊥) {timeout : ℕ} (asked : timeout ≡ asked_timeout a) where
          timed : ring_legal s a ≡ leb 1 timeout && leb timeout longest_ring
          timed =
              decided
              (rw (
                le-leb (asked_volume a) highest_volume quiet,
                ne_eqb (ring_mask s a) 0 (λ e. sounds (is ∙ e)),
                ← asked,
              ))

          pub legal_none : timeout < 1 → ring_legal s a ≡ false
          legal_none less = timed ∙ and_fails_left _ (lt-leb 1 timeout less)

          pub legal_some : 1 ≤ timeout → ring_legal s a ≡ leb timeout longest_ring
          legal_some least = timed ∙ rw (le-leb 1 timeout least)

-- All components of a unit that has none, by the mask that is asked for
pub none_asked : (s : Settings) (a : List ℕ) {mask : ℕ} → mask ≡ ring_mask s a → asked_mask a ≡ whole_mask → eqb mask 0 ≡ all_of_none s a
none_asked s a is whole = rw (is, eq-eqb (asked_mask a) whole_mask whole)
