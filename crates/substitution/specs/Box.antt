-- The substitution box of FIPS 197, §5.1.1, and its inverse, §5.3.2, as rules and not as tables.
use Rattle.std.specs.Prelude.{ℕ, zero, suc, ◌+◌, ◌*◌, ◌^◌, ◌%◌, ◌<◌, ◌≡◌, List, get_or}
use Rattle.substitution.specs.Field.{bit, inverse}

-- the sum of f 0, .., f (n - 1) at the places 0, .., n - 1
unfoldable pub byte_of : ℕ → (ℕ → ℕ) → ℕ
byte_of zero f = 0
byte_of (suc i) f = byte_of i f + f i * 2 ^ i

-- the affine step: b'_i = b_i + b_(i+4) + b_(i+5) + b_(i+6) + b_(i+7) + c_i, places modulo 8, with c = {63}
unfoldable pub affine : ℕ → ℕ
affine b =
    byte_of 8
    (λ i. (bit i b + bit ((i + 4) % 8) b + bit ((i + 5) % 8) b + bit ((i + 6) % 8) b + bit ((i + 7) % 8) b + bit i 0x63) % 2)

-- §5.3.2 asks for the inverse of the affine step without writing it out; it is b'_i = b_(i+2) + b_(i+5) + b_(i+7) + d_i, with d = {05}.
-- That it undoes the affine step is part of the test over all bytes
unfoldable pub affine_inverse : ℕ → ℕ
affine_inverse b =
    byte_of 8 (λ i. (bit ((i + 2) % 8) b + bit ((i + 5) % 8) b + bit ((i + 7) % 8) b + bit i 0x05) % 2)

unfoldable pub SBox : ℕ → ℕ
SBox b = affine (inverse b)

unfoldable pub InvSBox : ℕ → ℕ
InvSBox b = inverse (affine_inverse b)

-- a table of the box's values, and one of the inverse box's
abbrev pub TableOf : (ℕ → ℕ) → List ℕ → Type 0
TableOf f table = (b : ℕ) → b < 256 → get_or table b 0 ≡ f b
