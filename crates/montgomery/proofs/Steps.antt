-- Montgomery's step, limb by limb: the sum t + x b + q m is made and its lowest limb, which is 0, is dropped, so that each
-- limb is written one place lower. The loop keeps the base times what is written and left.
use mathlib.Core.Path.{◌≡◌, refl, sym, ap, ◌∙◌}
use mathlib.Core.List.{List}
use Prim.Native.Nat.{ℕ, ◌+◌, ◌-◌, ◌*◌, ◌/◌, ◌%◌, ◌≤◌, ◌<◌}
use native.Mathlib.Nat.{add-mul-mod_self_left}
use native.Mathlib.Omega.{arith}
use lib.ListN.{length, get_or, take, drop, set, length-set}
use lib.Seq.{drop-set-lt}
use Rattle.limbs.specs.Limbs.{over, value, quotient}
use Rattle.limbs.proofs.Limbs.{over_turn, over_drop, over_end, over_last, value_drop, value_end}

-- the multiple of m makes the lowest limb 0: m inv + 1 is a multiple of the base
pub exact : (m inv bottom q : ℕ) → (m * inv + 1) % 4294967296 ≡ 0 → (u : ℕ) → u ≡ 0 + bottom * inv + 0 → q ≡ u % 4294967296
    → (bottom + q * m + 0) % 4294967296 ≡ 0
exact m inv bottom q h u eu e =
    let of-u : m * inv + 1 ≡ 4294967296 * ((m * inv + 1) / 4294967296) = omega arith in
    let of-v : bottom * inv ≡ 4294967296 * (bottom * inv / 4294967296) + q = omega arith in
    omega (arith, ap (λ (k : ℕ). bottom * k) of-u, ap (λ (k : ℕ). m * k) of-v)

module _ (t b m : List ℕ) (x q top : ℕ) (width : length t ≡ length m) (width-b : length b ≡ length m) where
  -- the lowest limb
  pub step_start : (s l z c d : ℕ) → 0 < length m → s ≡ get_or t 0 0 + x * get_or b 0 0 + 0 → l ≡ s % 4294967296 → z ≡ l + q * get_or m 0 0 + 0
      → (l + q * get_or m 0 0 + 0) % 4294967296 ≡ 0 → c ≡ s / 4294967296 → d ≡ z / 4294967296
      → 4294967296 * (c + d + over (drop 1 t) top + x * value (drop 1 b) + q * value (drop 1 m)) ≡ over t top + x * value b + q * value m
  step_start s l z c d h e el f g ec ed =
      omega (arith, over_drop t 0 top (omega arith), ap (λ (k : ℕ). x * k) (value_drop b 0 (omega arith)), ap (λ (k : ℕ). q * k) (value_drop m 0 h))

  -- one limb more
  pub step_turn : (i c d s l z a c' d' n : ℕ) → 1 ≤ i → i < length m
      → s ≡ get_or t i 0 + x * get_or b i 0 + c → l ≡ s % 4294967296 → z ≡ l + q * get_or m i 0 + d → a ≡ z % 4294967296
      → c' ≡ s / 4294967296 → d' ≡ z / 4294967296
      → 4294967296 * over (take (i - 1) t) (c + d + over (drop i t) top + x * value (drop i b) + q * value (drop i m)) ≡ n
      → 4294967296 * over (take (i + 1 - 1) (set t (i - 1) a))
      (c' + d' + over (drop (i + 1) (set t (i - 1) a)) top + x * value (drop (i + 1) b) + q * value (drop (i + 1) m)) ≡ n
  step_turn i c d s l z a c' d' n low h e el f g ec ed whole =
      let place : i + 1 - 1 ≡ i - 1 + 1 = omega arith in
      let w : ℕ = c' + d' + over (drop (i + 1) t) top + x * value (drop (i + 1) b) + q * value (drop (i + 1) m) in
      let v : ℕ = c + d + over (drop i t) top + x * value (drop i b) + q * value (drop i m) in
      let same : a + 4294967296 * w ≡ v =
      omega (arith, over_drop t i top (omega arith), ap (λ (k : ℕ). x * k) (value_drop b i (omega arith)), ap (λ (k : ℕ). q * k) (value_drop m i h)) in
      rw (place, drop-set-lt (i + 1) t (i - 1) a (omega arith))
      (ap (λ (k : ℕ). 4294967296 * k) (over_turn t (i - 1) a w v (over (take (i - 1) t) v) (omega arith) same refl) ∙ whole)

  -- the carries and top are what is left
  pub step_end : (c d s a h n : ℕ) → 0 < length m → s ≡ top + c + d → a ≡ s % 4294967296 → h ≡ s / 4294967296
      → 4294967296
      * over (take (length m - 1) t) (c + d + over (drop (length m) t) top + x * value (drop (length m) b) + q * value (drop (length m) m)) ≡ n
      → 4294967296 * over (set t (length m - 1) a) h ≡ n
  step_end c d s a h n l f g k whole =
      let i : ℕ = length m in
      let v : ℕ = c + d + over (drop i t) top + x * value (drop i b) + q * value (drop i m) in
      let same : a + 4294967296 * h ≡ v =
      omega (arith, over_end t i top (omega arith), ap (λ (j : ℕ). x * j) (value_end b i (omega arith)), ap (λ (j : ℕ). q * j) (value_end m i (omega arith))) in
      ap (λ (j : ℕ). 4294967296 * j)
      (over_last (set t (i - 1) a) (i - 1 + 1) h h (over (take (i - 1) t) v) (omega (arith, length-set t (i - 1) a)) refl
      (over_turn t (i - 1) a h v (over (take (i - 1) t) v) (omega arith) same refl))
      ∙ whole

  -- the multiple as Montgomery gives it, of the whole numbers
  pub of_quotient : (s l u inv : ℕ) → 0 < length m → s ≡ get_or t 0 0 + x * get_or b 0 0 + 0 → l ≡ s % 4294967296
      → u ≡ 0 + l * inv + 0 → q ≡ u % 4294967296 → q ≡ quotient (value t + x * value b) inv
  unfolding quotient
  of_quotient s l u inv h e el eu f =
      let k : ℕ = s / 4294967296 + value (drop 1 t) + x * value (drop 1 b) in
      let split : value t + x * value b ≡ l + 4294967296 * k =
      omega (arith, value_drop t 0 (omega arith), ap (λ (j : ℕ). x * j) (value_drop b 0 (omega arith))) in
      let whole : u + 4294967296 * (k * inv) ≡ (value t + x * value b) * inv = omega (arith, ap (λ (j : ℕ). j * inv) split) in
      f ∙ sym (add-mul-mod_self_left u 4294967296 (k * inv)) ∙ ap (λ (j : ℕ). j % 4294967296) whole
