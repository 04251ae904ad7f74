-- A column of the state mixed, byte by byte; and a column in a word of 32 bits, its first byte highest.
use Rattle.std.specs.Prelude.{ℕ, List, [], ◌∷◌, map, get_or}
use Rattle.laws.specs.Bytes.{big_endian, number}
use Rattle.std.specs.Int.Bits.{bit_xor}
use Rattle.substitution.specs.Field.{◌•◌}

-- §5.1.3, §5.3.3: each column times the polynomial a₃x³ + a₂x² + a₁x + a₀ modulo x⁴ + 1, where row r of the matrix is
-- a₀ a₃ a₂ a₁ turned r places to the right: a byte from the one in its own row, x₀, and those in the next three
unfoldable pub mixed_byte : ℕ → ℕ → ℕ → ℕ → ℕ → ℕ → ℕ → ℕ → ℕ
mixed_byte a₀ a₁ a₂ a₃ x₀ x₁ x₂ x₃ = bit_xor (bit_xor (a₀ • x₀) (a₃ • x₁)) (bit_xor (a₂ • x₂) (a₁ • x₃))

-- the word with f of each byte
unfoldable pub each_byte : (ℕ → ℕ) → ℕ → ℕ
each_byte f w = number (map f (big_endian 4 w))

-- the column of the bytes a, b, c, d mixed with the coefficients
abbrev pub mixed_column : (a₀ a₁ a₂ a₃ a b c d : ℕ) → List ℕ
mixed_column a₀ a₁ a₂ a₃ a b c d =
    mixed_byte a₀ a₁ a₂ a₃ a b c d ∷ mixed_byte a₀ a₁ a₂ a₃ b c d a ∷ mixed_byte a₀ a₁ a₂ a₃ c d a b ∷ mixed_byte a₀ a₁ a₂ a₃ d a b c ∷ []

-- the word of a column, mixed
unfoldable pub mixed_word : (a₀ a₁ a₂ a₃ w : ℕ) → ℕ
mixed_word a₀ a₁ a₂ a₃ w =
    number (mixed_column a₀ a₁ a₂ a₃ (get_or (big_endian 4 w) 0 0) (get_or (big_endian 4 w) 1 0) (get_or (big_endian 4 w) 2 0) (get_or (big_endian 4 w) 3 0))
