-- Differences gathered by OR: nothing is gathered exactly if nothing was before and the next two bytes are equal. A byte's bits are its difference from 0.
use Prim.Native.Nat.{ℕ}
use mathlib.Core.Path.{◌≡◌, refl, sym, ap, ◌∙◌}
use mathlib.Core.Bool.{Bool, true, false, ◌&&◌}
use mathlib.Core.List.{List}
use native.Mathlib.Omega.{arith}
use lib.Dec.{eqb}
use lib.Bits.{bit_or, bit_xor, bit_and, or_add_and, xor_add_and, and_le_l, and_le_r, xor_self, xor_zero_r, or_zero_l}
use borrow.Author.Tests.{eqb-true, eq-eqb}
use Rattle.laws.proofs.Flags.{agree, both, and_left, and_right}

nothing : (d x y : ℕ) → bit_or d (bit_xor x y) ≡ 0 → (d ≡ 0) × (x ≡ y)
nothing d x y h =
    let z : ℕ = bit_xor x y in
    let none : z ≡ 0 = omega (arith, or_add_and d z, and_le_l d z, and_le_r d z) in (
      omega (arith, or_add_and d z, and_le_l d z, and_le_r d z),
      omega (arith, xor_add_and x y, and_le_l x y, and_le_r x y),
    )

pub gathered : (d x y : ℕ) → eqb (bit_or d (bit_xor x y)) 0 ≡ eqb d 0 && eqb x y
gathered d x y =
    agree _ _
    (λ e. let n = nothing d x y (eqb-true _ _ e) in both (eq-eqb d 0 n.0) (eq-eqb x y n.1))
    (λ e.
    let first : d ≡ 0 = eqb-true d 0 (and_left (eqb d 0) (eqb x y) e) in
    let second : x ≡ y = eqb-true x y (and_right (eqb d 0) (eqb x y) e) in
    rw (first, second, xor_self y))

pub gathered_bits : (d x : ℕ) → eqb (bit_or d x) 0 ≡ eqb d 0 && eqb x 0
gathered_bits d x = rw xor_zero_r at (gathered d x 0)

pub and_assoc : (a b c : Bool) → (a && b) && c ≡ a && (b && c)
and_assoc true b c = refl
and_assoc false b c = refl

pub and_true : (a : Bool) → a && true ≡ a
and_true true = refl
and_true false = refl
