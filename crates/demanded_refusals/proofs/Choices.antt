-- What holds of both things that a test chooses between holds of the one chosen; where it is chosen, the test is known.
use mathlib.Core.Path.{◌≡◌, refl}
use mathlib.Core.Bool.{Bool, true, false, cond}

module _ {A : Type 0} (P : A → Type 0) where
  pub tested : (b : Bool) {x y : A} → (b ≡ true → P x) → (b ≡ false → P y) → P (cond b x y)
  tested true h k = h refl
  tested false h k = k refl

  pub either : (b : Bool) {x y : A} → P x → P y → P (cond b x y)
  either b h k = tested b (λ e. h) (λ e. k)
