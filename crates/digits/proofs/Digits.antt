-- Bits and bytes of a number, read out of the limb that they lie in, and the bits of a byte shifted in from the top.
use mathlib.Core.Path.{◌≡◌, sym, ap, ◌∙◌}
use mathlib.Core.List.{List, [], ◌∷◌}
use Prim.Native.Nat.{ℕ, zero, suc, ◌+◌, ◌-◌, ◌*◌, ◌/◌, ◌%◌, ◌^◌, ◌≤◌, ◌<◌}
use native.Mathlib.Nat.{div-one, zero-div, mod-mod, pow-suc, mod-add-div, add-mul-mod_self_left}
use native.Mathlib.Decide.{dec_lt}
use native.Mathlib.Omega.{arith}
use lib.ListN.{length, get_or, drop, get_or-eq_default}
use lib.Pow.{shr-shr, field, pow-add}
use Rattle.laws.specs.Bytes.{number_after}
use Rattle.limbs.specs.Limbs.{over, value}
use Rattle.limbs.proofs.Limbs.{Limbs, value_drop, value_end}

-- limb q and what is above it
pub value_high : (t : List ℕ) (q : ℕ) → Limbs t → value t / 2 ^ (32 * q) ≡ value (drop q t)
unfolding over value
value_high t zero h = div-one (value t)
value_high [] (suc q) h = zero-div (2 ^ (32 * suc q))
value_high (x ∷ xs) (suc q) h =
    let places : 32 * suc q ≡ 32 + 32 * q = omega arith in
    let above : (x + 4294967296 * over xs 0) / 4294967296 ≡ over xs 0 = omega (arith, h 0) in
    ap (λ (k : ℕ). (x + 4294967296 * over xs 0) / 2 ^ k) places
    ∙ sym (shr-shr (x + 4294967296 * over xs 0) 32 (32 * q))
    ∙ ap (λ (k : ℕ). k / 2 ^ (32 * q)) above
    ∙ value_high xs q (λ i. h (suc i))

-- w bits from bit s on of a limb are those of any number that goes on above it
limb_part : (x v s w : ℕ) → s + w ≤ 32 → (x + 4294967296 * v) / 2 ^ s % 2 ^ w ≡ x / 2 ^ s % 2 ^ w
limb_part x v s w h =
    let places : w + s + (32 - (w + s)) ≡ 32 = omega arith in
    let power : 4294967296 ≡ 2 ^ (w + s) * 2 ^ (32 - (w + s)) = ap (λ (k : ℕ). 2 ^ k) (sym places) ∙ pow-add 2 (w + s) (32 - (w + s)) in
    let whole : x + 4294967296 * v ≡ x + 2 ^ (w + s) * (2 ^ (32 - (w + s)) * v) = omega (arith, ap (λ (k : ℕ). k * v) power) in
    sym (field (x + 4294967296 * v) w s)
    ∙ ap (λ (k : ℕ). k % 2 ^ (w + s) / 2 ^ s) whole
    ∙ ap (λ (k : ℕ). k / 2 ^ s) (add-mul-mod_self_left x (2 ^ (w + s)) (2 ^ (32 - (w + s)) * v))
    ∙ field x w s

module _ (t : List ℕ) (i q s w : ℕ) (limbs : Limbs t) (place : i ≡ 32 * q + s) (inside : s + w ≤ 32) where
  above : value t / 2 ^ i ≡ value (drop q t) / 2 ^ s
  above =
      ap (λ (k : ℕ). value t / 2 ^ k) place
      ∙ sym (shr-shr (value t) (32 * q) s)
      ∙ ap (λ (k : ℕ). k / 2 ^ s) (value_high t q limbs)

  -- the w bits from bit i on, which lie in limb q; above the highest limb they are 0
  pub digit : get_or t q 0 / 2 ^ s % 2 ^ w ≡ value t / 2 ^ i % 2 ^ w
  digit = go (dec_lt q (length t))
    where
      go : Dec (q < length t) → get_or t q 0 / 2 ^ s % 2 ^ w ≡ value t / 2 ^ i % 2 ^ w
      go (yes h) =
          sym (limb_part (get_or t q 0) (value (drop (q + 1) t)) s w inside)
          ∙ ap (λ (k : ℕ). k / 2 ^ s % 2 ^ w) (sym (value_drop t q h))
          ∙ ap (λ (k : ℕ). k % 2 ^ w) (sym above)
      go (no n) =
          let h : length t ≤ q = omega arith in
          ap (λ (k : ℕ). k / 2 ^ s % 2 ^ w) (get_or-eq_default t 0 h ∙ sym (value_end t q h)) ∙ ap (λ (k : ℕ). k % 2 ^ w) (sym above)

-- a remainder in a sum, with a factor
pub mod_linear : (k n d m : ℕ) → (k * (n % m) + d) % m ≡ (k * n + d) % m
mod_linear k n d m =
    sym (add-mul-mod_self_left (k * (n % m) + d) m (n / m * k))
    ∙ ap (λ (j : ℕ). j % m) (omega (arith, ap (λ (j : ℕ). j * k) (mod-add-div n m)))

-- One bit more of a byte, with `left` bits left
pub bit_turn : (t t₀ byte m left u r : ℕ) → 0 < left → left ≤ 8 → t ≡ (t₀ * 2 ^ (8 - left) + byte / 2 ^ left) % m
    → u ≡ 2 * t + byte / 2 ^ (left - 1) % 2 → r ≡ u % m → r ≡ (t₀ * 2 ^ (8 - (left - 1)) + byte / 2 ^ (left - 1)) % m
bit_turn t t₀ byte m left u r h l e f g =
    let n : ℕ = t₀ * 2 ^ (8 - left) + byte / 2 ^ left in
    let last : left - 1 + 1 ≡ left = omega arith in
    let more : 8 - (left - 1) ≡ suc (8 - left) = omega arith in
    let half : byte / 2 ^ (left - 1) / 2 ≡ byte / 2 ^ left = shr-shr byte (left - 1) 1 ∙ ap (λ (k : ℕ). byte / 2 ^ k) last in
    let power : 2 ^ (8 - (left - 1)) ≡ 2 ^ (8 - left) * 2 = ap (λ (k : ℕ). 2 ^ k) more ∙ pow-suc 2 (8 - left) in
    let twice : u ≡ 2 * (n % m) + byte / 2 ^ (left - 1) % 2 = f ∙ ap (λ (k : ℕ). 2 * k + byte / 2 ^ (left - 1) % 2) e in
    let whole : 2 * n + byte / 2 ^ (left - 1) % 2 ≡ t₀ * 2 ^ (8 - (left - 1)) + byte / 2 ^ (left - 1) =
    omega (arith, ap (λ (k : ℕ). t₀ * k) power) in
    g
    ∙ ap (λ (k : ℕ). k % m) twice
    ∙ mod_linear 2 n (byte / 2 ^ (left - 1) % 2) m
    ∙ ap (λ (k : ℕ). k % m) whole

-- bytes after a remainder, modulo m, are bytes after the number
pub after_mod : (bs : List ℕ) (n m : ℕ) → number_after (n % m) bs % m ≡ number_after n bs % m
unfolding number_after
after_mod [] n m = mod-mod n m
after_mod (b ∷ bs) n m = sym (after_mod bs (n % m * 256 + b) m) ∙ ap (λ (k : ℕ). number_after k bs % m) (swap ∙ mod_linear 256 n b m ∙ back) ∙ after_mod bs (n * 256 + b) m
  where
    swap : (n % m * 256 + b) % m ≡ (256 * (n % m) + b) % m
    swap = ap (λ (k : ℕ). k % m) (omega arith)

    back : (256 * n + b) % m ≡ (n * 256 + b) % m
    back = ap (λ (k : ℕ). k % m) (omega arith)
