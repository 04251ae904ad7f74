-- A mask is inside the ringable mask exactly if it is below the power of two of the component number.
use Prim.Native.Nat.{ℕ, ◌-◌, ◌^◌, ◌≤◌, ◌<◌}
use mathlib.Core.Path.{◌≡◌, ◌∙◌}
use mathlib.Core.Bool.{true}
use native.Mathlib.Nat.{mod-eq_of_lt}
use native.Mathlib.Omega.{arith}
use lib.Bits.{bit_and, and_mask, mask_lt}
use lib.Pow.{pow_mono}
use borrow.Author.Tests.{eqb-true, eq-eqb}
use Rattle.sizes.specs.Sizes.{most_components}
use Rattle.unit.specs.Ringable.{inside}

module _ (mask components : ℕ) where
  pub inside_below : inside mask components ≡ true → mask < 2 ^ components
  inside_below h =
      let same : bit_and mask (2 ^ components - 1) ≡ mask = eqb-true _ _ h in
      omega (arith, mask_lt mask components)

  pub below_inside : mask < 2 ^ components → inside mask components ≡ true
  below_inside h = eq-eqb _ _ (and_mask mask components ∙ mod-eq_of_lt h)

  -- so it is a byte
  pub inside_small : components ≤ most_components → inside mask components ≡ true → mask < 256
  inside_small few h =
      let most : 2 ^ components ≤ 2 ^ most_components = pow_mono few in
      omega (arith, inside_below h)
