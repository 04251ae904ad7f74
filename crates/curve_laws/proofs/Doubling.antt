-- Jacobian doubling is doubling of points, for a = p - 3. With the tangent's slope l kept as an unknown, M = l Z', S = x Z'² and
-- 8 Y⁴ = y Z'³, from which X' and Y' follow; the last step serves addition too.
use mathlib.Core.Path.{◌≡◌, refl}
use mathlib.Core.Bool.{Bool, true, false, cond}
use mathlib.Core.List.{List, [], ◌∷◌}
use Prim.Native.Nat.{ℕ, ◌<◌}
use native.Mathlib.Omega.{arith}
use lib.Dec.{eqb}
use borrow.Author.Tests.{eqb-true, eqb-false}
use Rattle.curve_laws.specs.Modulo.{plus, times}
use Rattle.curve_laws.specs.Points.{Point, infinity, at, third, third_x, third_y, tangent, double}
use Rattle.curve_laws.specs.Valid.{Prime}
use Rattle.curve_laws.proofs.Modular.{Same, same_eq, back, ◌then◌}
use Rattle.curve_laws.proofs.Modulo.{times_below, times_zero, zero_times}
use Rattle.curve_laws.proofs.Ring.{Expr, var, num, ◌⊕◌, ◌⊖◌, ◌⊗◌, ◌⊞◌, ◌⊟◌, ◌⊡◌, gap, follows}
use Rattle.curve_laws.proofs.Field.{NonZero, positive, times_nonzero, below_zero, below_nonzero}
use Rattle.curve_laws.proofs.Slopes.{tangent_slope}
use Rattle.curve_laws.proofs.Jacobian.{Triple, Below, Stands, double_m, double_s, double_x, double_z, fourth_y, last_y, double_with, doubled}

abbrev pub square : Expr → Expr
square e = e ⊗ e

abbrev pub cube : Expr → Expr
cube e = e ⊗ (e ⊗ e)

-- ---- the last step

-- the unknowns: the slope, the point that is added to, x of the sum; M, S, W; X' and Z'. (Their values have other names)
abbrev l : Expr
l = var 0

abbrev x₁ : Expr
x₁ = var 1

abbrev y₁ : Expr
y₁ = var 2

abbrev x₃ : Expr
x₃ = var 3

abbrev M : Expr
M = var 4

abbrev S : Expr
S = var 5

abbrev W : Expr
W = var 6

abbrev X' : Expr
X' = var 7

abbrev Z' : Expr
Z' = var 8

pub last_step : {p : ℕ} → 0 < p → (l₀ x y x3 m s w X₀ Z₀ : ℕ) → Same p m (times p l₀ Z₀) → Same p s (times p x (times p Z₀ Z₀))
    → Same p w (times p y (times p Z₀ (times p Z₀ Z₀))) → Same p (times p x3 (times p Z₀ Z₀)) X₀
    → Same p (times p (third_y p l₀ x y x3) (times p Z₀ (times p Z₀ Z₀))) (last_y p m s X₀ w)
unfolding third_y last_y
last_step {p} h l₀ x y x3 m s w X₀ Z₀ hM hS hW hX =
    let ρ : List ℕ = l₀ ∷ x ∷ y ∷ x3 ∷ m ∷ s ∷ w ∷ X₀ ∷ Z₀ ∷ [] in
    follows h ρ
    (gap h ρ W (y₁ ⊗ cube Z') hW
    ⊟ ((S ⊖ X') ⊡ gap h ρ M (l ⊗ Z') hM)
    ⊟ ((l ⊗ Z') ⊡ (gap h ρ S (x₁ ⊗ square Z') hS ⊞ gap h ρ (x₃ ⊗ square Z') X' hX)))
    ((l ⊗ (x₁ ⊖ x₃) ⊖ y₁) ⊗ cube Z') (M ⊗ (S ⊖ X') ⊖ W) tt

-- ---- doubling

abbrev x : Expr
x = var 0

abbrev y : Expr
y = var 1

abbrev X : Expr
X = var 2

abbrev Y : Expr
Y = var 3

abbrev Z : Expr
Z = var 4

abbrev slope : Expr
slope = var 5

abbrev a : Expr
a = var 6

module _ {p : ℕ} (h : 0 < p) (x₀ y₀ X₀ Y₀ Z₀ : ℕ) (hX : Same p (times p x₀ (times p Z₀ Z₀)) X₀) (hY : Same p (times p y₀ (times p Z₀ (times p Z₀ Z₀))) Y₀) where
  -- 3 X² - 3 Z⁴ = (3 x² + a) Z⁴ = 2 l y Z⁴ = l Z'
  double_slope : (l₀ a₀ : ℕ) → Same p (plus p a₀ 3) 0 → Same p (times p l₀ (times p 2 y₀)) (plus p (times p 3 (times p x₀ x₀)) a₀)
      → Same p (double_m p X₀ Z₀) (times p l₀ (double_z p Y₀ Z₀))
  unfolding double_m double_z
  double_slope l₀ a₀ hA hL =
      let ρ : List ℕ = x₀ ∷ y₀ ∷ X₀ ∷ Y₀ ∷ Z₀ ∷ l₀ ∷ a₀ ∷ [] in
      follows h ρ
      ((num 2 ⊗ slope ⊗ Z) ⊡ gap h ρ (y ⊗ cube Z) Y hY
      ⊟ ((num 3 ⊗ (x ⊗ square Z ⊕ X)) ⊡ gap h ρ (x ⊗ square Z) X hX)
      ⊟ (square (square Z) ⊡ (gap h ρ (slope ⊗ (num 2 ⊗ y)) (num 3 ⊗ square x ⊕ a) hL ⊞ gap h ρ (a ⊕ num 3) (num 0) hA)))
      (num 3 ⊗ ((X ⊖ square Z) ⊗ (X ⊕ square Z))) (slope ⊗ (num 2 ⊗ (Y ⊗ Z))) tt

  double-S : Same p (double_s p X₀ Y₀) (times p x₀ (times p (double_z p Y₀ Z₀) (double_z p Y₀ Z₀)))
  unfolding double_s double_z
  double-S =
      let ρ : List ℕ = x₀ ∷ y₀ ∷ X₀ ∷ Y₀ ∷ Z₀ ∷ [] in
      follows h ρ ((num 0 ⊖ num 4 ⊗ square Y) ⊡ gap h ρ (x ⊗ square Z) X hX) (num 4 ⊗ (X ⊗ square Y))
      (x ⊗ square (num 2 ⊗ (Y ⊗ Z))) tt

  double-W : Same p (fourth_y p Y₀) (times p y₀ (times p (double_z p Y₀ Z₀) (times p (double_z p Y₀ Z₀) (double_z p Y₀ Z₀))))
  unfolding fourth_y double_z
  double-W =
      let ρ : List ℕ = x₀ ∷ y₀ ∷ X₀ ∷ Y₀ ∷ Z₀ ∷ [] in
      follows h ρ ((num 0 ⊖ num 8 ⊗ cube Y) ⊡ gap h ρ (y ⊗ cube Z) Y hY) (num 8 ⊗ (square Y ⊗ square Y))
      (y ⊗ cube (num 2 ⊗ (Y ⊗ Z))) tt

double-X : {p : ℕ} → 0 < p → (l₀ x m s Z₀ : ℕ) → Same p m (times p l₀ Z₀) → Same p s (times p x (times p Z₀ Z₀))
    → Same p (times p (third_x p l₀ x x) (times p Z₀ Z₀)) (double_x p m s)
unfolding third_x double_x
double-X {p} h l₀ x m s Z₀ hM hS =
    let ρ : List ℕ = l₀ ∷ x ∷ 0 ∷ 0 ∷ m ∷ s ∷ 0 ∷ 0 ∷ Z₀ ∷ [] in
    follows h ρ
    (num 2 ⊡ gap h ρ S (x₁ ⊗ square Z') hS ⊟ ((M ⊕ l ⊗ Z') ⊡ gap h ρ M (l ⊗ Z') hM))
    ((square l ⊖ x₁ ⊖ x₁) ⊗ square Z') (square M ⊖ num 2 ⊗ S) tt

module _ {p : ℕ} (P : Prime p) (odd : 2 < p) (a₀ : ℕ) (hA : Same p (plus p a₀ 3) 0) where
  double_none : (Y₀ Z₀ : ℕ) → Same p (times p Y₀ Z₀) 0 → double_z p Y₀ Z₀ ≡ 0
  unfolding double_z
  double_none Y₀ Z₀ z = below_zero (times_below (positive P) 2 (times p Y₀ Z₀)) (times_zero 2 z)

  double_some : (Y₀ Z₀ : ℕ) → NonZero p Y₀ → NonZero p Z₀ → NonZero p (double_z p Y₀ Z₀)
  unfolding double_z
  double_some Y₀ Z₀ hY hZ = times_nonzero P (below_nonzero (omega arith) odd) (times_nonzero P hY hZ)

  double_below : (Y₀ Z₀ : ℕ) → double_z p Y₀ Z₀ < p
  unfolding double_z
  double_below Y₀ Z₀ = times_below (positive P) 2 (times p Y₀ Z₀)

  from_none : (j : Triple) → Stands p j infinity → Stands p (doubled p j) infinity
  unfolding doubled double_with
  from_none j s =
      record { below = double_below j.Y j.Z; shape = double_none j.Y j.Z (times_zero j.Y (same_eq s.shape)) }

  -- where y = 0 the tangent is upright
  upright : (j : Triple) (x₀ y₀ : ℕ) → y₀ ≡ 0 → Stands p j (at x₀ y₀) → Stands p (doubled p j) infinity
  unfolding doubled double_with
  upright j x₀ y₀ e s =
      record {
        below = double_below j.Y j.Z;
        shape =
            double_none j.Y j.Z
            (zero_times j.Z (back s.shape.2 then zero_times (times p j.Z (times p j.Z j.Z)) (same_eq e)));
      }

  sloping : (j : Triple) (x₀ y₀ : ℕ) → NonZero p y₀ → Stands p j (at x₀ y₀) → Stands p (doubled p j) (third p (tangent p a₀ x₀ y₀) x₀ y₀ x₀)
  unfolding doubled double_with third
  sloping j x₀ y₀ hy s =
      let h : 0 < p = positive P in
      let z : ℕ = j.Z in
      let hZ : NonZero p z = s.shape.0 in
      let hX : Same p (times p x₀ (times p z z)) j.X = s.shape.1 in
      let hY : Same p (times p y₀ (times p z (times p z z))) j.Y = s.shape.2 in
      let t : ℕ = tangent p a₀ x₀ y₀ in
      let m : ℕ = double_m p j.X z in
      let r : ℕ = double_s p j.X j.Y in
      let z' : ℕ = double_z p j.Y z in
      let hM : Same p m (times p t z') = double_slope h x₀ y₀ j.X j.Y z hX hY t a₀ hA (tangent_slope P odd a₀ x₀ y₀ hy) in
      let hS : Same p r (times p x₀ (times p z' z')) = double-S h x₀ y₀ j.X j.Y z hX hY in
      let hW : Same p (fourth_y p j.Y) (times p y₀ (times p z' (times p z' z'))) = double-W h x₀ y₀ j.X j.Y z hX hY in
      let first : Same p (times p (third_x p t x₀ x₀) (times p z' z')) (double_x p m r) = double-X h t x₀ m r z' hM hS in
      record {
        below = double_below j.Y z;
        shape = (
          double_some j.Y z (λ none. times_nonzero P hy (times_nonzero P hZ (times_nonzero P hZ hZ)) (hY then none)) hZ,
          first,
          last_step h t x₀ y₀ (third_x p t x₀ x₀) m r (fourth_y p j.Y) (double_x p m r) z' hM hS hW first,
        );
      }

  pub doubling : (j : Triple) (Q : Point) → Below p Q → Stands p j Q → Stands p (doubled p j) (double p a₀ Q)
  unfolding double
  doubling j infinity b s = from_none j s
  doubling j (at x₀ y₀) b s = go (eqb y₀ 0) refl
    where
      go : (t : Bool) → eqb y₀ 0 ≡ t → Stands p (doubled p j) (cond t infinity (third p (tangent p a₀ x₀ y₀) x₀ y₀ x₀))
      go true e = upright j x₀ y₀ (eqb-true y₀ 0 e) s
      go false e = sloping j x₀ y₀ (λ z. eqb-false y₀ 0 e (below_zero b.1 z)) s
