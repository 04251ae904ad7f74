-- Once around the modulus: what one subtraction of m, or one addition of it, leaves. The laws are over plain numbers, with
-- the power p of the base above the limbs; which carries can come is what the bounds decide.
use mathlib.Core.Path.{◌≡◌, refl, sym, ap, ◌∙◌}
use mathlib.Core.List.{List}
use Prim.Native.Nat.{ℕ, zero, suc, ◌+◌, ◌-◌, ◌*◌, ◌%◌, ◌^◌, ◌≤◌, ◌<◌}
use native.Mathlib.Nat.{mod-eq_of_lt, add-mod_right}
use native.Mathlib.Omega.{arith}
use lib.ListN.{length}
use Rattle.limbs.specs.Limbs.{over, value}
use Rattle.limbs.proofs.Limbs.{Limbs, over_value, value_less}

-- a remainder, by the number that is m more
pub once_around : (r n m : ℕ) → r < m → r + m ≡ n → r ≡ n % m
once_around r n m l e = sym (mod-eq_of_lt l) ∙ sym (add-mod_right r m) ∙ ap (λ (k : ℕ). k % m) e

-- t with top above it, less m, where a one was lent above t
subtracted : (p t t' m top r : ℕ) → t' < p → m < p → t + p * top < 2 * m → (top ≡ 0 → m ≤ t) → t' + p * r + m ≡ t + p * 1 → r ≤ 1
    → (t' < m) × (t' + m ≡ t + p * top)
subtracted p t t' m zero zero a b l h e q = let h' : m ≤ t = h refl in absurd (omega arith)
subtracted p t t' m zero (suc zero) a b l h e q = omega arith
subtracted p t t' m zero (suc (suc r)) a b l h e q = absurd (omega arith)
subtracted p t t' m (suc zero) zero a b l h e q = omega arith
subtracted p t t' m (suc zero) (suc zero) a b l h e q = absurd (omega arith)
subtracted p t t' m (suc zero) (suc (suc r)) a b l h e q = absurd (omega arith)
subtracted p t t' m (suc (suc top)) r a b l h e q = absurd (omega arith)

-- t less b, a one lent above t and used: m is added, and what comes above it is dropped
returned : (p t t' t'' b m r : ℕ) → t' < p → t'' < p → m < p → t < m → b < m → t' + b ≡ t + p → t'' + p * r ≡ t' + 1 * m → t'' ≡ (t + (m - b)) % m
returned p t t' t'' b m zero a c d l k e q = absurd (omega arith)
returned p t t' t'' b m (suc zero) a c d l k e q = let same : t'' ≡ t + (m - b) = omega arith in same ∙ sym (mod-eq_of_lt (omega arith))
returned p t t' t'' b m (suc (suc r)) a c d l k e q = absurd (omega arith)

-- a number and its bound, at the modulus' width
module _ (m xs : List ℕ) (width : length xs ≡ length m) where
  wide : (v : ℕ) → over xs v ≡ value xs + 4294967296 ^ length m * v
  wide v = rw (← width) (over_value xs v)

  fits : Limbs xs → value xs < 4294967296 ^ length m
  fits h = rw (← width) (value_less xs h)

module _ (t t' m : List ℕ) (limbs : Limbs t') (limbs-m : Limbs m) (width : length t ≡ length m) (width' : length t' ≡ length m) where
  pub reduced : (top r : ℕ) → over t top < 2 * value m → (top ≡ 0 → value m ≤ value t) → over t' r + value m ≡ over t 1 → r ≤ 1
      → value t' ≡ over t top % value m
  reduced top r l h e q =
      let two = subtracted (4294967296 ^ length m) (value t) (value t') (value m) top r (fits m t' width' limbs) (value_less m limbs-m)
      (omega (arith, wide m t width top)) h (omega (arith, wide m t' width' r, wide m t width 1)) q in
      once_around (value t') (over t top) (value m) two.0 (omega (arith, two.1, wide m t width top))

  -- t less b is t', and the one lent above t is left
  pub kept : (b : List ℕ) (r : ℕ) → value t < value m → value b < value m → over t' r + value b ≡ over t 1 → r ≤ 1 → (r ≡ 0 → ⊥)
      → value t' ≡ (value t + (value m - value b)) % value m
  kept b r l k e q n =
      let one : r ≡ 1 = omega arith in
      let e' : over t' 1 + value b ≡ over t 1 = rw one at e in
      let same : value t' + value b ≡ value t = omega (arith, wide m t' width' 1, wide m t width 1) in
      once_around (value t') (value t + (value m - value b)) (value m) (omega arith) (omega arith)

  -- the one was used, and m is added
  pub borrowed : (b t'' : List ℕ) (r r' : ℕ) → length t'' ≡ length m → Limbs t'' → value t < value m → value b < value m
      → over t' r' + value b ≡ over t 1 → r' ≡ 0 → over t'' r ≡ value t' + 1 * value m → value t'' ≡ (value t + (value m - value b)) % value m
  borrowed b t'' r r' w h l k e z q =
      let e' : over t' 0 + value b ≡ over t 1 = rw z at e in
      returned (4294967296 ^ length m) (value t) (value t') (value t'') (value b) (value m) r
      (fits m t' width' limbs) (fits m t'' w h) (value_less m limbs-m) l k
      (omega (arith, wide m t' width' 0, wide m t width 1)) (omega (arith, wide m t'' w r))
