-- Adding a point (x₂, y₂) in Jacobian coordinates is addition of points. H = (x₂ - x₁) Z² and R = (y₂ - y₁) Z³ say which rule applies; with the
-- chord's slope l kept as an unknown, R = l Z', X H² = x₁ Z'² and Y H³ = y₁ Z'³, and the last step is that of doubling.
use mathlib.Core.Path.{◌≡◌, refl, sym, ap}
use mathlib.Core.Bool.{Bool, true, false, cond, ◌&&◌}
use mathlib.Core.List.{List, [], ◌∷◌}
use Prim.Native.Nat.{ℕ, ◌<◌}
use native.Mathlib.Omega.{arith}
use lib.Dec.{eqb}
use borrow.Author.Tests.{eqb-true, eqb-false, eq-eqb, ne_eqb}
use Rattle.curve_laws.specs.Modulo.{plus, times, minus}
use Rattle.curve_laws.specs.Points.{Point, infinity, at, third, third_x, chord, double, add}
use Rattle.curve_laws.specs.Valid.{Prime}
use Rattle.curve_laws.proofs.Modular.{Same, same_eq, back, ◌then◌}
use Rattle.curve_laws.proofs.Modulo.{times_below, minus_below, zero_times, minus_none}
use Rattle.curve_laws.proofs.Ring.{Expr, var, num, ◌⊕◌, ◌⊖◌, ◌⊗◌, ◌⊞◌, ◌⊟◌, ◌⊡◌, gap, identity, follows}
use Rattle.curve_laws.proofs.Field.{NonZero, positive, times_nonzero, below_zero, below_nonzero}
use Rattle.curve_laws.proofs.Slopes.{distinct, chord_slope}
use Rattle.curve_laws.proofs.Jacobian.{Triple, triple, Below, Stands, doubled, add_h, add_r, add_x, add_with, added}
use Rattle.curve_laws.proofs.Doubling.{square, cube, last_step, doubling}

-- the unknowns of the identities
abbrev l : Expr
l = var 0

abbrev x₁ : Expr
x₁ = var 1

abbrev y₁ : Expr
y₁ = var 2

abbrev x₂ : Expr
x₂ = var 3

abbrev y₂ : Expr
y₂ = var 4

abbrev X : Expr
X = var 5

abbrev Y : Expr
Y = var 6

abbrev Z : Expr
Z = var 7

abbrev H : Expr
H = var 8

abbrev R : Expr
R = var 9

abbrev S : Expr
S = var 10

module _ {p : ℕ} (h : 0 < p) (x y X₀ Y₀ Z₀ : ℕ) (hX : Same p (times p x (times p Z₀ Z₀)) X₀) (hY : Same p (times p y (times p Z₀ (times p Z₀ Z₀))) Y₀) where
  add-H : (x' : ℕ) → Same p (add_h p x' X₀ Z₀) (times p (minus p x' x) (times p Z₀ Z₀))
  unfolding add_h
  add-H x' =
      let ρ : List ℕ = 0 ∷ x ∷ y ∷ x' ∷ 0 ∷ X₀ ∷ Y₀ ∷ Z₀ ∷ [] in
      follows h ρ (gap h ρ (x₁ ⊗ square Z) X hX) (x₂ ⊗ square Z ⊖ X) ((x₂ ⊖ x₁) ⊗ square Z) tt

  add-R : (y' : ℕ) → Same p (add_r p y' Y₀ Z₀) (times p (minus p y' y) (times p Z₀ (times p Z₀ Z₀)))
  unfolding add_r
  add-R y' =
      let ρ : List ℕ = 0 ∷ x ∷ y ∷ 0 ∷ y' ∷ X₀ ∷ Y₀ ∷ Z₀ ∷ [] in
      follows h ρ (gap h ρ (y₁ ⊗ cube Z) Y hY) (y₂ ⊗ cube Z ⊖ Y) ((y₂ ⊖ y₁) ⊗ cube Z) tt

  add_slope : (l₀ x' y' : ℕ) → Same p (times p l₀ (minus p x' x)) (minus p y' y)
      → Same p (add_r p y' Y₀ Z₀) (times p l₀ (times p (add_h p x' X₀ Z₀) Z₀))
  unfolding add_r add_h
  add_slope l₀ x' y' rise =
      let ρ : List ℕ = l₀ ∷ x ∷ y ∷ x' ∷ y' ∷ X₀ ∷ Y₀ ∷ Z₀ ∷ [] in
      follows h ρ
      (gap h ρ (y₁ ⊗ cube Z) Y hY ⊟ ((l ⊗ Z) ⊡ gap h ρ (x₁ ⊗ square Z) X hX) ⊟ (cube Z ⊡ gap h ρ (l ⊗ (x₂ ⊖ x₁)) (y₂ ⊖ y₁) rise))
      (y₂ ⊗ cube Z ⊖ Y) (l ⊗ ((x₂ ⊗ square Z ⊖ X) ⊗ Z)) tt

  add-S : (H₀ : ℕ) → Same p (times p X₀ (times p H₀ H₀)) (times p x (times p (times p H₀ Z₀) (times p H₀ Z₀)))
  add-S H₀ =
      let ρ : List ℕ = 0 ∷ x ∷ y ∷ 0 ∷ 0 ∷ X₀ ∷ Y₀ ∷ Z₀ ∷ H₀ ∷ [] in
      follows h ρ ((num 0 ⊖ square H) ⊡ gap h ρ (x₁ ⊗ square Z) X hX) (X ⊗ square H) (x₁ ⊗ square (H ⊗ Z)) tt

  add-W : (H₀ : ℕ) → Same p (times p Y₀ (times p H₀ (times p H₀ H₀)))
      (times p y (times p (times p H₀ Z₀) (times p (times p H₀ Z₀) (times p H₀ Z₀))))
  add-W H₀ =
      let ρ : List ℕ = 0 ∷ x ∷ y ∷ 0 ∷ 0 ∷ X₀ ∷ Y₀ ∷ Z₀ ∷ H₀ ∷ [] in
      follows h ρ ((num 0 ⊖ cube H) ⊡ gap h ρ (y₁ ⊗ cube Z) Y hY) (Y ⊗ cube H) (y₁ ⊗ cube (H ⊗ Z)) tt

  add-X : (l₀ x' H₀ R₀ S₀ : ℕ) → Same p H₀ (times p (minus p x' x) (times p Z₀ Z₀)) → Same p R₀ (times p l₀ (times p H₀ Z₀))
      → Same p S₀ (times p x (times p (times p H₀ Z₀) (times p H₀ Z₀)))
      → Same p (times p (third_x p l₀ x x') (times p (times p H₀ Z₀) (times p H₀ Z₀))) (add_x p R₀ H₀ S₀)
  unfolding third_x add_x
  add-X l₀ x' H₀ R₀ S₀ hH hR hS =
      let ρ : List ℕ = l₀ ∷ x ∷ y ∷ x' ∷ 0 ∷ X₀ ∷ Y₀ ∷ Z₀ ∷ H₀ ∷ R₀ ∷ S₀ ∷ [] in
      follows h ρ
      (num 2 ⊡ gap h ρ S (x₁ ⊗ square (H ⊗ Z)) hS
      ⊟ ((R ⊕ l ⊗ (H ⊗ Z)) ⊡ gap h ρ R (l ⊗ (H ⊗ Z)) hR)
      ⊞ (square H ⊡ gap h ρ H ((x₂ ⊖ x₁) ⊗ square Z) hH))
      ((square l ⊖ x₁ ⊖ x₂) ⊗ square (H ⊗ Z)) (square R ⊖ cube H ⊖ num 2 ⊗ S) tt

module _ {p : ℕ} (P : Prime p) (odd : 2 < p) (a₀ : ℕ) (hA : Same p (plus p a₀ 3) 0) where
  h : 0 < p
  h = positive P

  -- rule 4
  through : (j : Triple) (x y x' y' : ℕ) → NonZero p (minus p x' x) → Stands p j (at x y)
      → Stands p (add_with p (add_h p x' j.X j.Z) (add_r p y' j.Y j.Z) j) (third p (chord p x y x' y') x y x')
  unfolding add_with third
  through j x y x' y' some s =
      let z : ℕ = j.Z in
      let hZ : NonZero p z = s.shape.0 in
      let hX : Same p (times p x (times p z z)) j.X = s.shape.1 in
      let hY : Same p (times p y (times p z (times p z z))) j.Y = s.shape.2 in
      let t : ℕ = chord p x y x' y' in
      let k : ℕ = add_h p x' j.X z in
      let r : ℕ = add_r p y' j.Y z in
      let hH : Same p k (times p (minus p x' x) (times p z z)) = add-H h x y j.X j.Y z hX hY x' in
      let hR : Same p r (times p t (times p k z)) = add_slope h x y j.X j.Y z hX hY t x' y' (chord_slope P x y x' y' some) in
      let hS : Same p (times p j.X (times p k k)) (times p x (times p (times p k z) (times p k z)))
      = add-S h x y j.X j.Y z hX hY k in
      let hW : Same p (times p j.Y (times p k (times p k k))) (times p y (times p (times p k z) (times p (times p k z) (times p k z))))
      = add-W h x y j.X j.Y z hX hY k in
      let first : Same p (times p (third_x p t x x') (times p (times p k z) (times p k z))) (add_x p r k (times p j.X (times p k k)))
      = add-X h x y j.X j.Y z hX hY t x' k r (times p j.X (times p k k)) hH hR hS in
      record {
        below = times_below h k z;
        shape = (
          times_nonzero P (λ none. times_nonzero P some (times_nonzero P hZ hZ) (back hH then none)) hZ,
          first,
          last_step h t x y (third_x p t x x') r (times p j.X (times p k k)) (times p j.Y (times p k (times p k k)))
              (add_x p r k (times p j.X (times p k k))) (times p k z) hR hS hW first,
        );
      }

  -- H and R are 0 exactly where the coordinates agree
  same_x : (j : Triple) (x y x' : ℕ) → x ≡ x' → Stands p j (at x y) → add_h p x' j.X j.Z ≡ 0
  unfolding add_h
  same_x j x y x' e s =
      let square-Z : ℕ = times p j.Z j.Z in
      below_zero (minus_below h (times p x' square-Z) j.X) (minus_none h (same_eq (ap (λ (n : ℕ). times p n square-Z) (sym e)) then s.shape.1))

  same_y : (j : Triple) (x y y' : ℕ) → y ≡ y' → Stands p j (at x y) → add_r p y' j.Y j.Z ≡ 0
  unfolding add_r
  same_y j x y y' e s =
      let cube-Z : ℕ = times p j.Z (times p j.Z j.Z) in
      below_zero (minus_below h (times p y' cube-Z) j.Y) (minus_none h (same_eq (ap (λ (n : ℕ). times p n cube-Z) (sym e)) then s.shape.2))

  other_x : (j : Triple) (x y x' : ℕ) → NonZero p (minus p x' x) → Stands p j (at x y) → add_h p x' j.X j.Z ≡ 0 → ⊥
  other_x j x y x' some s z =
      let hZ : NonZero p j.Z = s.shape.0 in
      times_nonzero P some (times_nonzero P hZ hZ) (back (add-H h x y j.X j.Y j.Z s.shape.1 s.shape.2 x') then same_eq z)

  other_y : (j : Triple) (x y y' : ℕ) → NonZero p (minus p y' y) → Stands p j (at x y) → add_r p y' j.Y j.Z ≡ 0 → ⊥
  other_y j x y y' some s z =
      let hZ : NonZero p j.Z = s.shape.0 in
      times_nonzero P some (times_nonzero P hZ (times_nonzero P hZ hZ))
      (back (add-R h x y j.X j.Y j.Z s.shape.1 s.shape.2 y') then same_eq z)

  -- rule 3: Z' = H Z = 0
  against : (j : Triple) (H₀ R₀ : ℕ) → H₀ ≡ 0 → Stands p (add_with p H₀ R₀ j) infinity
  unfolding add_with
  against j H₀ R₀ e =
      record { below = times_below h H₀ j.Z; shape = below_zero (times_below h H₀ j.Z) (zero_times j.Z (same_eq e)) }

  alone : (x' y' : ℕ) → Stands p (triple x' y' 1) (at x' y')
  alone x' y' =
      record {
        below = P.above_one;
        shape = (
          below_nonzero (omega arith) P.above_one,
          identity h (x' ∷ []) (var 0 ⊗ square (num 1)) (var 0) tt,
          identity h (y' ∷ []) (var 0 ⊗ cube (num 1)) (var 0) tt,
        );
      }

  pub adding : (x' y' : ℕ) → x' < p → y' < p → (j : Triple) (Q : Point) → Below p Q → Stands p j Q
      → Stands p (added p x' y' j) (add p a₀ Q (at x' y'))
  unfolding added add
  adding x' y' lx ly j infinity b s = rw (eq-eqb j.Z 0 s.shape) (alone x' y')
  adding x' y' lx ly j (at x y) b s = rw finite (by_x (eqb x x') refl)
    where
      finite : eqb j.Z 0 ≡ false
      finite = ne_eqb j.Z 0 (λ z. s.shape.0 (same_eq z))

      by_y : x ≡ x' → (t : Bool) → eqb y y' ≡ t
          → Stands p (cond (eqb (add_h p x' j.X j.Z) 0 && eqb (add_r p y' j.Y j.Z) 0) (doubled p j)
          (add_with p (add_h p x' j.X j.Z) (add_r p y' j.Y j.Z) j)) (cond t (double p a₀ (at x y)) infinity)
      by_y ex true e =
          rw (eq-eqb (add_h p x' j.X j.Z) 0 (same_x j x y x' ex s), eq-eqb (add_r p y' j.Y j.Z) 0 (same_y j x y y' (eqb-true y y' e) s))
          (doubling P odd a₀ hA j (at x y) b s)
      by_y ex false e =
          rw (
            eq-eqb (add_h p x' j.X j.Z) 0 (same_x j x y x' ex s),
            ne_eqb (add_r p y' j.Y j.Z) 0 (other_y j x y y' (distinct P b.1 ly (eqb-false y y' e)) s),
          )
          (against j (add_h p x' j.X j.Z) (add_r p y' j.Y j.Z) (same_x j x y x' ex s))

      by_x : (t : Bool) → eqb x x' ≡ t
          → Stands p (cond (eqb (add_h p x' j.X j.Z) 0 && eqb (add_r p y' j.Y j.Z) 0) (doubled p j)
          (add_with p (add_h p x' j.X j.Z) (add_r p y' j.Y j.Z) j))
          (cond t (cond (eqb y y') (double p a₀ (at x y)) infinity) (third p (chord p x y x' y') x y x'))
      by_x true e = by_y (eqb-true x x' e) (eqb y y') refl
      by_x false e =
          let some : NonZero p (minus p x' x) = distinct P b.0 lx (eqb-false x x' e) in
          rw (ne_eqb (add_h p x' j.X j.Z) 0 (other_x j x y x' some s)) (through j x y x' y' some s)
