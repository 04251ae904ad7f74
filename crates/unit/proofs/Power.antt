-- Calibrated power from -100 to 20, as two signed comparisons tell it.
use mathlib.Core.Path.{◌≡◌, refl}
use mathlib.Core.Bool.{true, false}
use lib.IntN.{ℤ, pos, negsuc}
use lib.Signed.{lt_z, le_z}
use borrow.Author.Tests.{ltb-true, ltb-false, le-leb, lt-leb}
use Rattle.unit.specs.WellFormed.{power_legal}

pub below_range : (p : ℤ) → lt_z p (negsuc 99) ≡ true → power_legal p ≡ false
below_range (pos n) h = cc
below_range (negsuc n) h = lt-leb n 99 (ltb-true 99 n h)

pub from_lowest : (p : ℤ) → lt_z p (negsuc 99) ≡ false → power_legal p ≡ le_z p (pos 20)
from_lowest (pos n) h = refl
from_lowest (negsuc n) h = le-leb n 99 (ltb-false 99 n h)
