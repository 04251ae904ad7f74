-- Montgomery forms: an element of the field of m, times the power of the base above m's limbs, in as many limbs as m has.
use Rattle.std.specs.Prelude.{ℕ, ◌+◌, ◌*◌, ◌/◌, ◌%◌, ◌^◌, ◌≤◌, ◌<◌, ◌≡◌, List, length}
use Rattle.limbs.specs.Limbs.{value, Modulus, Below}

-- the inverse of the base modulo m: m inv + 1 is a multiple of the base
unfoldable pub shrink : List ℕ → ℕ → ℕ
shrink m inv = (value m * inv + 1) / 4294967296

-- the element that the form a holds
unfoldable pub plain : List ℕ → ℕ → List ℕ → ℕ
plain m inv a = value a * shrink m inv ^ length m % value m

-- a modulus of at most 8 limbs, above 1
pub record Field (m : List ℕ) (inv : ℕ) : Type 0 where
  pub modulus : Modulus m inv
  pub narrow : length m ≤ 8
  pub large : 1 < value m

-- the power of the base above m's limbs, squared, modulo m
pub record Square (m a : List ℕ) : Type 0 where
  pub form : Below a m
  pub is : value a ≡ 4294967296 ^ length m * 4294967296 ^ length m % value m
