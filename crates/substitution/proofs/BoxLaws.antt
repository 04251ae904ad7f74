-- The two boxes, by one test that antt computes at every byte: the tables hold what the standard's rules give, the power
-- b^254 is the field's inverse, and the boxes undo each other. The inverse of b is read back off the box's entry, so that
-- its power is computed once.
use mathlib.Core.Path.{◌≡◌, sym, ap, ◌∙◌}
use mathlib.Core.Bool.{cond}
use mathlib.Core.List.{List, [], ◌∷◌}
use Prim.Native.Nat.{ℕ, ◌<◌}
use native.Mathlib.Omega.{arith}
use borrow.Author.Tests.{ne_eqb}
use lib.Dec.{T, eqb, lit<}
use lib.ListN.{get_or}
use Rattle.laws.proofs.Table.{same_below, below}
use Rattle.substitution.specs.Field.{xtime, bit, ◌•◌, inverse}
use Rattle.substitution.specs.Box.{byte_of, affine, affine_inverse, SBox, InvSBox}
use Rattle.substitution.proofs.Bytes.{affine_inverse_below, SBox-below, InvSBox-below}
use Rattle.substitution.proofs.Product.{product, product_from, squares, product_fast, inverse_fast}
use Rattle.substitution.proofs.Boxes.{sbox, inv_sbox}

-- the inverse of b, from the box's entry
abbrev inverse_of : ℕ → ℕ
inverse_of b = affine_inverse (get_or sbox b 0)

-- what is tested at b: the two sides of each equation
left : ℕ → List ℕ
left b =
    squares 6 (product b b) (product b b) ∷ product b (inverse_of b) ∷ affine (inverse_of b) ∷ inverse_of (affine_inverse b)
    ∷ get_or inv_sbox (get_or sbox b 0) 0 ∷ get_or sbox (get_or inv_sbox b 0) 0 ∷ []

right : ℕ → List ℕ
right b = inverse_of b ∷ cond (eqb b 0) 0 1 ∷ get_or sbox b 0 ∷ get_or inv_sbox b 0 ∷ b ∷ b ∷ []

computed : T (same_below left right 256)
unfolding sbox inv_sbox left right squares product_from xtime bit byte_of affine affine_inverse
computed = tt

equation : (k b : ℕ) → b < 256 → get_or (left b) k 0 ≡ get_or (right b) k 0
equation k b h = ap (λ (l : List ℕ). get_or l k 0) (below left right 256 computed b h)

power : (b : ℕ) → b < 256 → inverse b ≡ inverse_of b
unfolding left right
power b h = inverse_fast b ∙ equation 0 b h

-- §4.4: b times its inverse is 1, where b is not 0; {00} is mapped to itself
pub inverse_right : (b : ℕ) → 0 < b → b < 256 → b • inverse b ≡ 1
unfolding left right
inverse_right b p h = rw (power b h, product_fast) (equation 1 b h ∙ rw (ne_eqb b 0 (λ e. omega arith)))

pub inverse_zero : inverse 0 ≡ 0
unfolding sbox byte_of bit affine_inverse
inverse_zero = power 0 (lit< tt)

-- the tables' entries
pub sub_entry : (b : ℕ) → b < 256 → get_or sbox b 0 ≡ SBox b
unfolding left right SBox
sub_entry b h = sym (rw (power b h) (equation 2 b h))

pub inv_sub_entry : (b : ℕ) → b < 256 → get_or inv_sbox b 0 ≡ InvSBox b
unfolding left right InvSBox
inv_sub_entry b h = sym (power (affine_inverse b) (affine_inverse_below b) ∙ equation 3 b h)

-- the boxes undo each other
pub InvSBox-SBox : (b : ℕ) → b < 256 → InvSBox (SBox b) ≡ b
unfolding left right
InvSBox-SBox b h = sym (inv_sub_entry (SBox b) (SBox-below b)) ∙ rw (← sub_entry b h) (equation 4 b h)

pub SBox-InvSBox : (b : ℕ) → b < 256 → SBox (InvSBox b) ≡ b
unfolding left right
SBox-InvSBox b h = sym (sub_entry (InvSBox b) (InvSBox-below b)) ∙ rw (← inv_sub_entry b h) (equation 5 b h)
