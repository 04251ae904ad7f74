-- The field GF(2^8) of FIPS 197 (2001; clause numbers of that edition), §4: a byte is a polynomial of degree below 8, taken modulo x^8 + x^4 + x^3 + x + 1.
--
use Rattle.std.specs.Prelude.{ℕ, zero, suc, ◌*◌, ◌/◌, ◌%◌, ◌^◌, cond, ltb}
use Rattle.std.specs.Int.Bits.{bit_xor}

-- §4.2: m(x) = x^8 + x^4 + x^3 + x + 1
abbrev pub modulus : ℕ
modulus = 0x11b

-- §4.2.1: a byte times x
unfoldable pub xtime : ℕ → ℕ
xtime b = cond (ltb b 128) (b * 2) (bit_xor (b * 2) modulus)

-- b times x^i
unfoldable pub xtimes : ℕ → ℕ → ℕ
xtimes zero b = b
xtimes (suc i) b = xtime (xtimes i b)

-- coefficient i of a byte
unfoldable pub bit : ℕ → ℕ → ℕ
bit i b = b / 2 ^ i % 2

-- §4.2: the product as the sum, over the n lowest coefficients of c, of b times x^i
unfoldable pub product_below : ℕ → ℕ → ℕ → ℕ
product_below zero b c = 0
product_below (suc i) b c = bit_xor (product_below i b c) (bit i c * xtimes i b)

unfoldable pub ◌•◌ : ℕ → ℕ → ℕ
b • c = product_below 8 b c

infixl 70 ◌•◌
-- §4.2: the multiplicative inverse, with {00} mapped to itself (§5.1.1): as b^254, which the update of 2023 gives in its §4.4. The powers
-- 2, 4, .., 128 multiplied. That b • inverse b is {01} is part of the test over all bytes
unfoldable pub power2 : ℕ → ℕ → ℕ
power2 zero b = b
power2 (suc i) b = power2 i b • power2 i b

unfoldable pub inverse : ℕ → ℕ
inverse b =
    power2 1 b • power2 2 b • power2 3 b • power2 4 b • power2 5 b • power2 6 b • power2 7 b
