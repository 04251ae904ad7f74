-- The field's product and inverse in a form that antt computes faster: one pass over the coefficients, and one square a
-- power.
use mathlib.Core.Path.{◌≡◌, sym, ◌∙◌, ap}
use Prim.Native.Nat.{ℕ, zero, suc, ◌+◌, ◌*◌, ◌/◌, ◌%◌, ◌^◌}
use native.Mathlib.Nat.{add-zero, add-suc, suc-add, div-one}
use native.Mathlib.Numerals.{add-one}
use lib.Bits.{bit_xor}
use lib.Pow.{shr-shr}
use Rattle.substitution.specs.Field.{xtime, xtimes, bit, product_below, ◌•◌, power2, inverse}

-- the sum so far, with b times the n lowest coefficients of c
unfoldable pub product_from : ℕ → ℕ → ℕ → ℕ → ℕ
product_from zero sum b c = sum
product_from (suc n) sum b c = product_from n (bit_xor sum (c % 2 * b)) (xtime b) (c / 2)

product_from_lem : (n i b c : ℕ) → product_below (i + n) b c ≡ product_from n (product_below i b c) (xtimes i b) (c / 2 ^ i)
unfolding product_from product_below bit xtimes
product_from_lem zero i b c = rw add-zero
product_from_lem (suc n) i b c =
    ap (λ (k : ℕ). product_below k b c) (add-suc i n ∙ sym (suc-add i n))
    ∙ product_from_lem n (suc i) b c
    ∙ rw (shr-shr c i 1, add-one)

abbrev pub product : ℕ → ℕ → ℕ
product b c = product_from 8 0 b c

pub product_fast : (b c : ℕ) → b • c ≡ product b c
unfolding ◌•◌ product_below xtimes
product_fast b c = product_from_lem 8 0 b c ∙ ap (λ (k : ℕ). product_from 8 0 b k) (div-one c)

-- the product so far and the last power: n more squares
unfoldable pub squares : ℕ → ℕ → ℕ → ℕ
squares zero sofar power = sofar
squares (suc n) sofar power = let square : ℕ = product power power in squares n (product sofar square) square

pub inverse_fast : (b : ℕ) → inverse b ≡ squares 6 (product b b) (product b b)
unfolding inverse power2 squares
inverse_fast b = simp product_fast
