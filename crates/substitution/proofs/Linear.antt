-- A byte's product with a coefficient respects XOR, so that what is shown of products at the powers of 2 holds at every byte. And the product
-- with 2, in the arithmetic of bytes and as xtime.
--
use mathlib.Core.Path.{◌≡◌, refl, sym, ap, ap₂, ◌∙◌}
use mathlib.Core.List.{List, [], ◌∷◌}
use Prim.Native.Nat.{ℕ, zero, suc, ◌-◌, ◌*◌, ◌/◌, ◌%◌, ◌^◌, ◌≤◌, ◌<◌}
use native.Mathlib.Omega.{arith}
use native.Mathlib.Nat.{zero-mul, one-mul, mod-lt}
use lib.Bits.{bit_xor, xor_shr, xor_mod, xor_self, xor_zero_r}
use lib.Dec.{T, ltb, lit<}
use mathlib.Core.Bool.{cond}
use borrow.Author.Tests.{lt-ltb, le-ltb}
use lib.ListN.{get_or}
use Rattle.laws.proofs.Table.{same_below, below}
use Rattle.laws.proofs.Xor.{xor_exchange, Additive}
use Rattle.substitution.specs.Field.{xtime, xtimes, bit, product_below, ◌•◌}

xor_times : (p q t : ℕ) → p < 2 → q < 2 → bit_xor p q * t ≡ bit_xor (p * t) (q * t)
xor_times zero q t h k = rw zero-mul
xor_times (suc zero) zero t h k = rw (zero-mul, one-mul) (sym (xor_zero_r t))
xor_times (suc zero) (suc zero) t h k = zero-mul t ∙ sym (xor_self (1 * t))
xor_times (suc zero) (suc (suc q)) t h k = absurd (omega arith)
xor_times (suc (suc p)) q t h k = absurd (omega arith)

bit_xor_lem : (i x y : ℕ) → bit i (bit_xor x y) ≡ bit_xor (bit i x) (bit i y)
unfolding bit
bit_xor_lem i x y = ap (λ (z : ℕ). z % 2) (xor_shr x y i) ∙ xor_mod (x / 2 ^ i) (y / 2 ^ i) 1

bit_below : (i x : ℕ) → bit i x < 2
unfolding bit
bit_below i x = mod-lt (x / 2 ^ i) (lit< tt)

product_xor : (n a x y : ℕ) → product_below n a (bit_xor x y) ≡ bit_xor (product_below n a x) (product_below n a y)
unfolding product_below
product_xor zero a x y = refl
product_xor (suc i) a x y =
    ap₂ bit_xor (product_xor i a x y)
    (ap (λ (z : ℕ). z * xtimes i a) (bit_xor_lem i x y)
    ∙ xor_times (bit i x) (bit i y) (xtimes i a) (bit_below i x) (bit_below i y))
    ∙ xor_exchange (product_below i a x) (product_below i a y) (bit i x * xtimes i a) (bit i y * xtimes i a)

pub product_additive : (a : ℕ) → Additive (λ x. a • x)
unfolding ◌•◌
product_additive a x y = product_xor 8 a x y

-- 2 • x in the arithmetic of bytes
abbrev shifted : ℕ → ℕ
shifted x = cond (ltb x 128) (x * 2) (bit_xor ((x - 128) * 2) 0x1b)

two_computed : T (same_below (λ x. 2 • x ∷ []) (λ x. shifted x ∷ []) 256)
unfolding ◌•◌ product_below bit xtimes xtime
two_computed = tt

two : (x : ℕ) → x < 256 → 2 • x ≡ shifted x
two x h = ap (λ (l : List ℕ). get_or l 0 0) (below (λ k. 2 • k ∷ []) (λ k. shifted k ∷ []) 256 two_computed x h)

pub two_low : (x : ℕ) → x < 128 → 2 • x ≡ x * 2
two_low x h = two x (omega arith) ∙ rw (lt-ltb x 128 h)

pub two_high : (x : ℕ) → 128 ≤ x → x < 256 → 2 • x ≡ bit_xor ((x - 128) * 2) 0x1b
two_high x h k = two x k ∙ rw (le-ltb x 128 h)

two_times : T (same_below (λ x. 2 • x ∷ []) (λ x. xtime x ∷ []) 256)
unfolding ◌•◌ product_below bit xtimes xtime
two_times = tt

-- §4.2.1: a byte times x is xtime of it
pub two_xtime : (x : ℕ) → x < 256 → 2 • x ≡ xtime x
two_xtime x h = ap (λ (l : List ℕ). get_or l 0 0) (below (λ k. 2 • k ∷ []) (λ k. xtime k ∷ []) 256 two_times x h)
