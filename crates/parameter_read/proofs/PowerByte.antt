-- Legal power as one byte: a negative one raised by 256.
use Prim.Native.Nat.{suc, ◌-◌, ◌≤◌, ◌<◌}
use mathlib.Core.Path.{◌≡◌, refl, ap}
use mathlib.Core.Bool.{true, false}
use native.Mathlib.Omega.{arith}
use lib.IntN.{ℤ, pos, negsuc, ◌+ℤ◌}
use lib.Signed.{lt_z}
use mir.Val.{SFits}
use mir.Syntax.{w32}
use borrow.Author.Tests.{ltb-true, leb-true, le-ltb}
use Rattle.unit.specs.WellFormed.{power_legal}
use Rattle.parameter_read.specs.Parameters.{wire_byte}

pub byte_below : (p : ℤ) → power_legal p ≡ true → wire_byte p < 256
byte_below (pos n) h = omega (arith, leb-true n 20 h)
byte_below (negsuc n) h = omega (arith, leb-true n 99 h)

pub raised : (p : ℤ) → power_legal p ≡ true → lt_z p (pos 0) ≡ true → p +ℤ pos 256 ≡ pos (wire_byte p)
raised (pos n) h l = absurd (omega (arith, ltb-true n 0 l))
raised (negsuc n) h l =
    let most : n ≤ 99 = leb-true n 99 h in
    let e : 256 - suc n ≡ 255 - n = omega arith in
    rw (le-ltb 256 (suc n) (omega arith)) (ap pos e)

pub as_it_is : (p : ℤ) → lt_z p (pos 0) ≡ false → p ≡ pos (wire_byte p)
as_it_is (pos n) l = refl
as_it_is (negsuc n) l = cc

pub legal_fits : (p : ℤ) → power_legal p ≡ true → SFits w32 p
legal_fits (pos n) h = record { sfits = omega (arith, leb-true n 20 h) }
legal_fits (negsuc n) h = record { sfits = omega (arith, leb-true n 99 h) }
