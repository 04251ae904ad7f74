-- Numbers as limbs: digits in base 2^32, the least significant first. `over` is the number that goes on above the limbs,
-- so that a carry is written without a power of the base.
use Rattle.std.specs.Prelude.{ℕ, ◌+◌, ◌*◌, ◌%◌, ◌<◌, ◌≡◌, List, [], ◌∷◌, length, get_or}

-- the number whose lowest digits are these limbs, with v above them
unfoldable pub over : List ℕ → ℕ → ℕ
over [] v = v
over (x ∷ xs) v = x + 4294967296 * over xs v

-- the number whose digits these limbs are
unfoldable pub value : List ℕ → ℕ
value xs = over xs 0

-- Montgomery's multiple: what times the modulus makes n divisible by the base. inv is minus the modulus' inverse.
unfoldable pub quotient : ℕ → ℕ → ℕ
quotient n inv = n * inv % 4294967296

-- A modulus and the constant that Montgomery's method takes with it: minus its inverse modulo the base
pub record Modulus (m : List ℕ) (inv : ℕ) : Type 0 where
  pub some : 0 < length m
  pub inverse : (get_or m 0 0 * inv + 1) % 4294967296 ≡ 0

-- As wide as m, and less
pub record Below (t m : List ℕ) : Type 0 where
  pub width : length t ≡ length m
  pub less : value t < value m
