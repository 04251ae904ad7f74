-- The ringable mask: which bits of a mask name a component.
use Rattle.std.specs.Prelude.{ℕ, ◌-◌, ◌^◌, ◌≡◌, Bool, eqb}
use Rattle.std.specs.Int.Bits.{bit_and}
use Rattle.std.specs.Int.Count.{ones}

-- "The ringable mask, 0x00, 0x01, 0x03 or 0x07, has as many ones as the component number"
abbrev pub ringable : ℕ → ℕ
ringable components = 2 ^ components - 1

-- every bit of the mask is one of the ringable mask's
abbrev pub inside : ℕ → ℕ → Bool
inside mask components = eqb (bit_and mask (ringable components)) mask

-- what is promised of the mask: that it is the ringable mask, and its count of ones
pub record RingableMask (components mask : ℕ) : Type 0 where
  pub mask_is : mask ≡ ringable components
  pub ones_are : ones mask ≡ components
