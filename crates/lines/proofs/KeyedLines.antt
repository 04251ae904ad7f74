-- What stands behind a key: read where the line begins with the key, and a line that breaks the order where it does not.
use Prim.Native.Nat.{ℕ}
use mathlib.Core.Path.{◌≡◌, refl, sym, ◌∙◌}
use mathlib.Core.Bool.{true, false, cond}
use mathlib.Core.List.{List}
use lib.Dec.{eqb}
use lib.ListN.{length, take, drop}
use lib.Pointwise.{pointwise}
use Rattle.std.specs.Prelude.{Option, None, Some}
use Rattle.laws.specs.Bytes.{same_bytes}
use Rattle.laws.proofs.Same.{pointwise_same}
use Rattle.reading.specs.Reading.{after}
use Rattle.lines.specs.Lines.{Line, breaks, given}
use Rattle.lines.specs.Promises.{value_line}

module _ (key line : List ℕ) where
  -- no such key: the line breaks the order
  pub unkeyed : (g : List ℕ → Line) → pointwise eqb (take (length key) line) key ≡ false → breaks ≡ given (after key line) g
  unfolding after
  unkeyed g h = rw (sym (pointwise_same (take (length key) line) key) ∙ h) refl

  module _ {rest : List ℕ} (found : pointwise eqb (take (length key) line) key ≡ true) (is : rest ≡ drop (length key) line) where
    pub keyed : (g : List ℕ → Line) → g rest ≡ given (after key line) g
    unfolding after
    keyed g = rw (sym (pointwise_same (take (length key) line) key) ∙ found, is) refl

    module _ {A : Type 0} (f : List ℕ → Option A) (g : A → Line) where
      pub no_value : None ≡ f rest → breaks ≡ value_line key f g line
      no_value e = (rw (← e) refl) ∙ keyed (λ v. given (f v) g)

      pub with_value : (a : A) → Some a ≡ f rest → g a ≡ value_line key f g line
      with_value a e = (rw (← e) refl) ∙ keyed (λ v. given (f v) g)

-- a chain of tests: one that holds is met, one that fails is skipped
module _ (name key : List ℕ) (a b : Line) where
  pub met : pointwise eqb name key ≡ true → a ≡ cond (same_bytes name key) a b
  met h = rw (sym (pointwise_same name key) ∙ h) refl

  pub skip : pointwise eqb name key ≡ false → {l : Line} → l ≡ b → l ≡ cond (same_bytes name key) a b
  skip h e = rw (sym (pointwise_same name key) ∙ h) e
