-- The published multiples are those of the definitions: antt computes each by the binary method.
use mathlib.Core.Path.{◌≡◌}
use mathlib.Core.Bool.{Bool, true, ◌&&◌}
use mathlib.Core.List.{List, [], ◌∷◌}
use Prim.Native.Nat.{ℕ, ◌+◌, ◌^◌}
use lib.Dec.{T, ltb, ltb→lt}
use Rattle.curve_laws.specs.Modulo.{plus, times, minus}
use Rattle.curve_laws.specs.Points.{x_of, y_of}
use Rattle.curve_laws.specs.Curves.{Curve, SECP160R1, SECP256R1}
use Rattle.curve_laws.specs.Valid.{Valid}
use Rattle.curve_laws.specs.Published.{Row, table160, table256, Holds, Published}
use Rattle.curve_laws.proofs.Tests.{both}
use Rattle.curve_laws.proofs.Jacobian.{double_m, double_s, double_x, double_z, last_y, fourth_y, double_with, doubled, add_h, add_r, add_x, add_with, added, turn, binary}
use Rattle.curve_laws.proofs.Known.{meets}
use Rattle.curve_laws.proofs.Valid.{three160, three256, valid160, valid256}
use Rattle.curve_laws.proofs.Scalar.{computed}

-- the row's r has so many bits, and the multiple computed is the row's
abbrev found : Curve → ℕ → Row → Bool
found c bits s = meets c.p s.multiple (binary c.p (x_of c.G) (y_of c.G) bits s.r)

abbrev row_test : Curve → ℕ → Row → Bool
row_test c bits s = ltb s.r (2 ^ bits) && found c bits s

abbrev test : Curve → ℕ → List Row → Bool
test c bits [] = true
test c bits (s ∷ rows) = row_test c bits s && test c bits rows

holds : (c : Curve) → Valid c → c.a + 3 ≡ c.p → (bits : ℕ) (rows : List Row) → T (test c bits rows) → Holds c rows
holds c K three bits [] t = tt
holds c K three bits (s ∷ rows) t =
    let parts = both (row_test c bits s) (test c bits rows) t in
    let sides = both (ltb s.r (2 ^ bits)) (found c bits s) parts.0 in
    (computed c K three bits s.r (ltb→lt s.r (2 ^ bits) sides.0) s.multiple sides.1, holds c K three bits rows parts.1)

pub published : Published
unfolding table160 table256 SECP160R1 SECP256R1 x_of y_of plus times minus double_m double_s double_x double_z last_y fourth_y double_with doubled add_h add_r add_x add_with added turn binary
published = (holds SECP160R1 valid160 three160 161 table160 tt, holds SECP256R1 valid256 three256 256 table256 tt)
