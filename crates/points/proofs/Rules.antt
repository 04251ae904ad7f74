-- The binary method, a bit a turn, and what a point holds after it.
use mathlib.Core.Path.{◌≡◌, sym, ap, ◌∙◌, subst}
use Prim.Native.Nat.{ℕ, suc, ◌+◌, ◌-◌, ◌/◌, ◌%◌, ◌^◌, ◌≤◌, ◌<◌}
use native.Mathlib.Nat.{div-one}
use native.Mathlib.Omega.{arith}
use lib.Pow.{shr-shr}
use Rattle.curve_laws.specs.Points.{at, total}
use Rattle.curve_laws.proofs.Jacobian.{Triple, Stands, triple, turn, binary, affine_x}
use Rattle.curve_laws.proofs.Binary.{binary_stands, stands_x}
use Rattle.field.specs.declared.Prime.{Prime}
use Rattle.doubling.specs.declared.Jacobian.{Jacobian}
use Rattle.doubling.specs.Coordinates.{coordinates, Forms, Held}
use Rattle.points.specs.Multiple.{Multiplies, SideOf}

-- a point that holds one triple holds any that is the same
pub held_as : {N : ℕ} {f : Prime N} {j : Jacobian N} {s t : Triple} → Held f j s → s ≡ t → Held f j t
held_as {N} {f} {j} h e = subst (λ (t : Triple). Held f j t) e h

-- what a point holds
pub held_coordinates : {N : ℕ} {f : Prime N} {j : Jacobian N} {t : Triple} → Held f j t → coordinates f j ≡ t
held_coordinates h = rw (h.x.holds, h.y.holds, h.z.holds)

-- a point that holds what the binary method makes is the multiple
pub held_multiplies : {N : ℕ} {f : Prime N} {j : Jacobian N} {p x y bits r : ℕ} → Held f j (binary p x y bits r)
    → Forms f j × Multiplies p x y bits r (coordinates f j)
held_multiplies {N} {f} {j} {p} {x} {y} {bits} {r} h = (
  record { x = h.x.form; y = h.y.form; z = h.z.form },
  record {
    stands = λ a b t l.
        subst (λ (k : Triple). Stands p k (total p a r (at x y))) (sym (held_coordinates h))
        (binary_stands t.prime t.odd a b t.minus_three t.smooth x y t.on bits r l);
  },
)

-- the x coordinate of a multiple
pub side_by : {p x y x' y' bits r found : ℕ} {j : Triple} → x ≡ x' → y ≡ y' → Multiplies p x y bits r j → found ≡ affine_x p j → SideOf p x' y' bits r found
side_by {p} {x} {y} {x'} {y'} {bits} {r} {found} {j} e f s is =
    let s' : Multiplies p x' y' bits r j = rw (e, f) at s in
    record { side = λ a b t l. is ∙ stands_x t.prime t.odd a b t.minus_three t.smooth x' y' t.on r j (s'.stands a b t l) }

-- from the highest bit down: with i bits left the point is the multiple by the bits of r before them
pub binary_start : (p x y bits r : ℕ) → triple 1 1 0 ≡ binary p x y (bits - bits) (r / 2 ^ bits)
unfolding binary
binary_start p x y bits r =
    let none : 0 ≡ bits - bits = omega arith in
    ap (λ (k : ℕ). binary p x y k (r / 2 ^ bits)) none

pub binary_turn : (p x y bits r i bit : ℕ) {j : Triple} → 0 < i → i ≤ bits → j ≡ binary p x y (bits - i) (r / 2 ^ i)
    → bit ≡ r / 2 ^ (i - 1) % 2 → turn p x y bit j ≡ binary p x y (bits - (i - 1)) (r / 2 ^ (i - 1))
unfolding binary
binary_turn p x y bits r i bit {j} h l e f =
    let before : i - 1 + 1 ≡ i = omega arith in
    let more : suc (bits - i) ≡ bits - (i - 1) = omega arith in
    let half : r / 2 ^ (i - 1) / 2 ≡ r / 2 ^ i = shr-shr r (i - 1) 1 ∙ ap (λ (k : ℕ). r / 2 ^ k) before in
    ap (λ (k : ℕ). turn p x y k j) f
    ∙ ap (λ (t : Triple). turn p x y (r / 2 ^ (i - 1) % 2) t) (e ∙ ap (λ (k : ℕ). binary p x y (bits - i) k) (sym half))
    ∙ ap (λ (k : ℕ). binary p x y k (r / 2 ^ (i - 1))) more

pub binary_end : (p x y bits r i : ℕ) → i ≡ 0 → binary p x y (bits - i) (r / 2 ^ i) ≡ binary p x y bits r
binary_end p x y bits r i e =
    let all : bits - i ≡ bits = omega arith in
    ap (λ (k : ℕ). binary p x y k (r / 2 ^ i)) all
    ∙ ap (λ (k : ℕ). binary p x y bits (r / 2 ^ k)) e
    ∙ ap (λ (k : ℕ). binary p x y bits k) (div-one r)
