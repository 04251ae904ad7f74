-- The bits of masks. A mask is inside the ringable mask exactly if none of its bits from the component number on is set: it is then below the power of
-- two, and above that power its highest bit is set. And the bits of those of its parts that are in reach.
use Prim.Native.Nat.{ℕ, zero, suc, ◌+◌, ◌*◌, ◌/◌, ◌%◌, ◌^◌, ◌≤◌, ◌<◌, min}
use mathlib.Core.Path.{◌≡◌, refl, sym, ◌∙◌}
use mathlib.Core.Bool.{true, false}
use mathlib.Core.Logic.{◌⊎◌, inl, inr}
use native.Mathlib.Nat.{zero-min, min-le_left, zero-mul, mul-zero, div-eq_of_lt, div-one, le-div_iff_mul-le}
use native.Mathlib.Omega.{arith}
use lib.Bits.{bit_and, and_step, and_shr}
use lib.Dec.{eqb, ltb}
use lib.Pow.{pow_mono, pow_pos, shr-shr}
use borrow.Author.Tests.{eqb-true, eqb-false, ltb-true, ltb-false}
use Rattle.laws.proofs.Flags.{true_or_false, fails, clash}
use Rattle.unit.specs.Ringable.{inside}
use Rattle.unit.proofs.Masks.{inside_below, below_inside}
use Rattle.demanded_answers.specs.Spelled.{bit, NoBitOutside}
use Rattle.demanded_answers.specs.Accepted.{NoneReached}

pub no_bit : (mask components i : ℕ) → mask < 2 ^ components → components ≤ i → mask / 2 ^ i % 2 ≡ 0
no_bit mask components i h k =
    let most : 2 ^ components ≤ 2 ^ i = pow_mono k in
    let none : mask / 2 ^ i ≡ 0 = div-eq_of_lt (omega arith) in
    rw none

-- a number above 0 has a bit that is set
some_bit : (most q : ℕ) → q ≤ most → 1 ≤ q → (j : ℕ) × (q / 2 ^ j % 2 ≡ 1)
some_bit zero q h k = absurd (omega arith)
some_bit (suc most) q h k = go (true_or_false (eqb (q % 2) 1)) (some_bit most (q / 2) (omega arith))
  where
    go : (eqb (q % 2) 1 ≡ true) ⊎ (eqb (q % 2) 1 ≡ false) → (1 ≤ q / 2 → (j : ℕ) × (q / 2 / 2 ^ j % 2 ≡ 1)) → (j : ℕ) × (q / 2 ^ j % 2 ≡ 1)
    go (inl e) later = (0, rw (div-one q) (eqb-true (q % 2) 1 e))
    go (inr e) later =
        let odd = eqb-false (q % 2) 1 e in
        let found = later (omega arith) in
        (1 + found.0, rw (shr-shr q 1 found.0) at found.1)

pub bit_from : (mask components : ℕ) → 2 ^ components ≤ mask → (i : ℕ) × (components ≤ i) × (mask / 2 ^ i % 2 ≡ 1)
bit_from mask components h =
    let some : 1 ≤ mask / 2 ^ components = (le-div_iff_mul-le (pow_pos components)).1 (omega arith) in
    let found = some_bit (mask / 2 ^ components) (mask / 2 ^ components) (omega arith) some in
    (components + found.0, omega arith, rw (shr-shr mask components found.0) at found.1)

-- "a bit outside the ringable mask", both ways
module _ (mask components : ℕ) where
  pub inside_bits : inside mask components ≡ true → NoBitOutside components mask
  inside_bits h i k = no_bit mask components i (inside_below mask components h) k

  pub outside_bit : inside mask components ≡ false → (i : ℕ) × (components ≤ i) × (bit mask i ≡ 1)
  outside_bit h = go (true_or_false (ltb mask (2 ^ components)))
    where
      go : (ltb mask (2 ^ components) ≡ true) ⊎ (ltb mask (2 ^ components) ≡ false) → (i : ℕ) × (components ≤ i) × (bit mask i ≡ 1)
      go (inl e) = absurd (clash (below_inside mask components (ltb-true _ _ e)) h)
      go (inr e) = bit_from mask components (ltb-false _ _ e)

  pub bits_inside : NoBitOutside components mask → inside mask components ≡ true
  bits_inside none = go (true_or_false (inside mask components))
    where
      go : (inside mask components ≡ true) ⊎ (inside mask components ≡ false) → inside mask components ≡ true
      go (inl e) = e
      go (inr e) = let found = outside_bit e in absurd (omega (arith, found.2, none found.0 found.1))

  pub bit_outside : (i : ℕ) → components ≤ i → bit mask i ≡ 1 → inside mask components ≡ false
  bit_outside i k h = fails _ (λ e. omega (arith, h, inside_bits e i k))

-- Masks with the same bits are the same; those of two masks' AND are the products
same_bits : (most a b : ℕ) → a ≤ most → b ≤ most → ((i : ℕ) → bit a i ≡ bit b i) → a ≡ b
same_bits zero a b h k e = omega arith
same_bits (suc most) a b h k e =
    let low : a % 2 ≡ b % 2 = rw (div-one, div-one) at (e 0) in
    let high : a / 2 ≡ b / 2 = same_bits most (a / 2) (b / 2) (omega arith) (omega arith)
    (λ i. rw (shr-shr a 1 i, shr-shr b 1 i) (e (1 + i))) in
    omega arith

min_times : (x y : ℕ) → x < 2 → y < 2 → min x y ≡ x * y
min_times zero y h k = zero-min y ∙ sym (zero-mul y)
min_times (suc zero) zero h k = refl
min_times (suc zero) (suc zero) h k = refl
min_times (suc zero) (suc (suc y)) h k = absurd (omega arith)
min_times (suc (suc x)) y h k = absurd (omega arith)

and_bit : (a b i : ℕ) → bit (bit_and a b) i ≡ bit a i * bit b i
and_bit a b i = rw (and_shr a b i) (least (a / 2 ^ i) (b / 2 ^ i))
  where
    least : (x y : ℕ) → bit_and x y % 2 ≡ (x % 2) * (y % 2)
    least x y =
        let low : min (x % 2) (y % 2) ≤ x % 2 = min-le_left (x % 2) (y % 2) in
        let same : bit_and x y % 2 ≡ min (x % 2) (y % 2) = omega (arith, and_step x y) in
        same ∙ min_times (x % 2) (y % 2) (omega arith) (omega arith)

-- nothing is outside of a mask of no part
pub zero_bit : (i : ℕ) → bit 0 i ≡ 0
zero_bit i = no_bit 0 0 i (omega arith) (omega arith)

module _ (mask reach : ℕ) where
  pub reached_is : {parts : ℕ} → ((i : ℕ) → bit parts i ≡ bit mask i * bit reach i) → bit_and mask reach ≡ parts
  reached_is {parts} h =
      same_bits (bit_and mask reach + parts) (bit_and mask reach) parts (omega arith) (omega arith) (λ i. and_bit mask reach i ∙ sym (h i))

  pub none_reached : NoneReached mask reach → bit_and mask reach ≡ 0
  none_reached none = reached_is (λ i. zero_bit i ∙ sym (times (bit mask i) (bit reach i) (omega arith) (none i)))
    where
      times : (x y : ℕ) → x < 2 → (x ≡ 1 → y ≡ 0) → x * y ≡ 0
      times zero y h k = zero-mul y
      times (suc zero) y h k = rw (k refl)
      times (suc (suc x)) y h k = absurd (omega arith)

  pub part_reached_lem : (i : ℕ) → bit mask i ≡ 1 → bit reach i ≡ 1 → bit_and mask reach ≡ 0 → ⊥
  part_reached_lem i m r none =
      let one : bit (bit_and mask reach) i ≡ 1 = and_bit mask reach i ∙ rw (m, r) in
      omega (arith, zero_bit i, rw none at one)

  -- a part that is out of reach is none of those reached
  pub not_reached : (i : ℕ) → bit reach i ≡ 0 → bit (bit_and mask reach) i ≡ 0
  not_reached i r = and_bit mask reach i ∙ rw r (mul-zero (bit mask i))
