-- What the code promises of a curve's base point, and of which curve the limbs of a domain are.
use Rattle.std.specs.Prelude.{ℕ, ◌+◌, ◌%◌, ◌^◌, ◌≤◌, ◌≡◌, List}
use Rattle.laws.specs.Bytes.{big_endian, number}
use Rattle.limbs.specs.Limbs.{value}
use Rattle.curve_laws.specs.Points.{at}
use Rattle.curve_laws.specs.Curves.{Curve, x_times_g}
use Rattle.curve_laws.specs.Valid.{Valid}
use Rattle.curves.specs.declared.Domain.{Domain}

-- The multiple by a number: r is the number modulo n, in 32 bytes, and x is the x coordinate of r times G, in so many bytes
pub record Multiple (c : Curve) (bytes : List ℕ) (size : ℕ) (r x : List ℕ) : Type 0 where
  pub scalar : r ≡ big_endian 32 (number bytes % c.n)
  pub side : x ≡ big_endian size (x_times_g c (number bytes % c.n))

-- the numbers of a domain
abbrev pub prime : {W S : ℕ} → Domain W S → ℕ
prime d = value d.p.prime.m

abbrev pub order : {W S : ℕ} → Domain W S → ℕ
order d = value d.n

abbrev pub base_x : {W S : ℕ} → Domain W S → ℕ
base_x d = value d.x

abbrev pub base_y : {W S : ℕ} → Domain W S → ℕ
base_y d = value d.y

-- The limbs are those of the curve's parameters
pub record Of {W S : ℕ} (c : Curve) (d : Domain W S) : Type 0 where
  pub p : prime d ≡ c.p
  pub G : at (base_x d) (base_y d) ≡ c.G
  pub n : order d ≡ c.n
  pub bits : c.n ≤ 2 ^ d.bits

-- The multiple on every curve that has these numbers and a = p - 3
abbrev pub OnItsCurves : {W S : ℕ} → Domain W S → List ℕ → ℕ → List ℕ → List ℕ → Type 0
OnItsCurves d bytes size r x = (c : Curve) → Valid c → c.a + 3 ≡ c.p → Of c d → Multiple c bytes size r x
