-- Legal lengths by ID: what one row of the table says of a length.
use mathlib.Core.Path.{◌≡◌, refl}
use mathlib.Core.Bool.{Bool, true, false, ◌||◌}
use mathlib.Core.List.{[], ◌∷◌}
use Prim.Native.Nat.{ℕ, zero, suc, ◌≤◌, ◌<◌}
use native.Mathlib.Omega.{arith}
use borrow.Author.Tests.{eq-eqb, ne_eqb}
use lib.Dec.{eqb}
use lib.ListN.{get_or, get_or-eq_default}
use Rattle.shapes.specs.Lengths.{legal_sizes, one_of, size_legal}

or_false : (b : Bool) → b ≡ b || false
or_false true = refl
or_false false = refl

module _ (id n s : ℕ) where
  pub legal_one : get_or legal_sizes id [] ≡ s ∷ [] → eqb n s ≡ size_legal id n
  unfolding size_legal one_of
  legal_one row = rw row (or_false (eqb n s))

  module _ (t : ℕ) (row : get_or legal_sizes id [] ≡ s ∷ t ∷ []) where
    pub legal_first : n ≡ s → eqb n s ≡ size_legal id n
    unfolding size_legal one_of
    legal_first e = rw (row, eq-eqb n s e) refl

    pub legal_second : (n ≡ s → ⊥) → eqb n t ≡ size_legal id n
    unfolding size_legal one_of
    legal_second e = rw (row, ne_eqb n s e) (or_false (eqb n t))

pub legal_none : (id n : ℕ) → 9 ≤ id → false ≡ size_legal id n
unfolding size_legal one_of legal_sizes
legal_none id n h = rw (get_or-eq_default legal_sizes [] h) refl

pub eight_first : (id : ℕ) → id < 2 → get_or legal_sizes id [] ≡ 8 ∷ []
unfolding legal_sizes
eight_first zero h = refl
eight_first (suc zero) h = refl
eight_first (suc (suc id)) h = absurd (omega arith)

-- one more ID that it is not
pub above : (id n : ℕ) → n ≤ id → (id ≡ n → ⊥) → suc n ≤ id
above id n h other = omega arith
