-- Arithmetic modulo p, as SEC 1 section 2.1.1 has it for the field of a prime p: its elements are the numbers below p. Each operation
-- takes any numbers and gives the element that the result is modulo p.
use Rattle.std.specs.Prelude.{ℕ, ◌+◌, ◌-◌, ◌*◌, ◌%◌, ◌^◌}

unfoldable pub plus : ℕ → ℕ → ℕ → ℕ
plus p a b = (a + b) % p

unfoldable pub times : ℕ → ℕ → ℕ → ℕ
times p a b = a * b % p

-- a plus the additive inverse of b, the solution of b + x ≡ 0: what b lacks to p
unfoldable pub minus : ℕ → ℕ → ℕ → ℕ
minus p a b = (a + (p - b % p)) % p

-- a to the n
unfoldable pub power : ℕ → ℕ → ℕ → ℕ
power p a n = a ^ n % p

-- the multiplicative inverse, the solution of a x ≡ 1 for a other than 0: by Fermat a to the p - 2. (Of 0 it is 0)
unfoldable pub inverse : ℕ → ℕ → ℕ
inverse p a = power p a (p - 2)

-- the quotient a / b
unfoldable pub over : ℕ → ℕ → ℕ → ℕ
over p a b = times p a (inverse p b)
