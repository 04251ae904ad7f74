-- One turn of each loop that goes up the limbs: limb i is replaced by the lower half of a sum, the upper half is carried, and
-- the limbs written, with what is left above them, make the same number as before.
use mathlib.Core.Path.{◌≡◌, refl, ap, ◌∙◌}
use mathlib.Core.List.{List}
use Prim.Native.Nat.{ℕ, ◌+◌, ◌-◌, ◌*◌, ◌/◌, ◌%◌, ◌≤◌, ◌<◌}
use native.Mathlib.Omega.{arith}
use lib.ListN.{length, get_or, take, drop, set}
use Rattle.limbs.specs.Limbs.{over, value}
use Rattle.limbs.proofs.Limbs.{over_turn, over_drop, value_drop, drop_turn}

module _ (t : List ℕ) (i a h s : ℕ) (inside : i < length t) (low : a ≡ s % 4294967296) (high : h ≡ s / 4294967296) where
  -- t + x b, from the carry c
  pub times_turn : (b : List ℕ) (x c n : ℕ) → length t ≡ length b → s ≡ get_or t i 0 + x * get_or b i 0 + c
      → over (take i t) (c + value (drop i t) + x * value (drop i b)) ≡ n
      → over (take (i + 1) (set t i a)) (h + value (drop (i + 1) (set t i a)) + x * value (drop (i + 1) b)) ≡ n
  times_turn b x c n e q whole =
      rw (drop_turn t i a)
      (over_turn t i a (h + value (drop (i + 1) t) + x * value (drop (i + 1) b)) (c + value (drop i t) + x * value (drop i b)) n inside
      (omega (arith, value_drop t i inside, ap (λ (k : ℕ). x * k) (value_drop b i (omega arith)))) whole)

  -- 2 t, from the carry c
  pub twice_turn : (c n : ℕ) → s ≡ 0 + 2 * get_or t i 0 + c
      → over (take i t) (c + 2 * value (drop i t)) ≡ n
      → over (take (i + 1) (set t i a)) (h + 2 * value (drop (i + 1) (set t i a))) ≡ n
  twice_turn c n q whole =
      rw (drop_turn t i a)
      (over_turn t i a (h + 2 * value (drop (i + 1) t)) (c + 2 * value (drop i t)) n inside
      (omega (arith, value_drop t i inside)) whole)

  -- t and a one above it, less b: w is what is left of the difference
  pub minus_turn : (b : List ℕ) (c m n : ℕ) → length t ≡ length b → get_or b i 0 ≤ 4294967295
      → s ≡ get_or t i 0 + 1 * (4294967295 - get_or b i 0) + c
      → ((w : ℕ) → w + 1 + value (drop i b) ≡ c + over (drop i t) 1 → over (take i t) w + m ≡ n)
      → (w : ℕ) → w + 1 + value (drop (i + 1) b) ≡ h + over (drop (i + 1) (set t i a)) 1 → over (take (i + 1) (set t i a)) w + m ≡ n
  minus_turn b c m n e l q whole w p =
      let p' : w + 1 + value (drop (i + 1) b) ≡ h + over (drop (i + 1) t) 1 = rw (drop_turn t i a) at p in
      ap (λ (k : ℕ). k + m) (over_turn t i a w (a + 4294967296 * w) (over (take i t) (a + 4294967296 * w)) inside refl refl)
      ∙ whole (a + 4294967296 * w) (omega (arith, over_drop t i 1 inside, value_drop b i (omega arith)))
