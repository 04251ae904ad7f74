-- Addition of points by lines: the sum of opposite points is infinity; that of others is the third point of any line through both. So sums
-- are on the curve, and the order of two points does not matter.
use mathlib.Core.Path.{◌≡◌, refl, sym, ap, subst, ◌∙◌}
use mathlib.Core.Logic.{◌⊎◌, ⊎_elim}
use mathlib.Core.Bool.{Bool, true, false, cond}
use mathlib.Core.List.{List, [], ◌∷◌}
use Prim.Native.Nat.{ℕ, ◌<◌}
use native.Mathlib.Omega.{arith}
use native.Mathlib.Decide.{ℕ_discrete}
use lib.Dec.{eqb}
use borrow.Author.Tests.{eqb-true, eqb-false, eq-eqb, ne_eqb}
use Rattle.curve_laws.specs.Modulo.{plus, minus}
use Rattle.curve_laws.specs.Points.{Point, infinity, at, OnCurve, equation, third, third_x, chord, tangent, double, add}
use Rattle.curve_laws.specs.Valid.{Prime}
use Rattle.curve_laws.proofs.Modular.{Same, same_eq, ◌then◌, equal_below}
use Rattle.curve_laws.proofs.Modulo.{none_minus}
use Rattle.curve_laws.proofs.Ring.{var, num, ◌⊕◌, ◌⊖◌, ◌⊗◌, none, ◌⊞◌, ◌⊟◌, ◌⊡◌, gap, combined, follows}
use Rattle.curve_laws.proofs.Field.{NonZero, positive, same?, zero_product, zero_factor, below_zero, below_nonzero}
use Rattle.curve_laws.proofs.Slopes.{distinct}
use Rattle.curve_laws.proofs.Lines.{Line, curve_of, flip, third_on, third-X-below, third-Y-below, third_same, third_flip, chord_line, tangent_line, slopes}

-- same x, and y coordinates that add to 0
abbrev pub Opposite : ℕ → ℕ → ℕ → ℕ → ℕ → Type 0
Opposite p x y x' y' = (x ≡ x') × Same p (plus p y y') 0

pub opposite? : (p x y x' y' : ℕ) → Dec (Opposite p x y x' y')
opposite? p x y x' y' = go (ℕ_discrete x x') (same? p (plus p y y') 0)
  where
    go : Dec (x ≡ x') → Dec (Same p (plus p y y') 0) → Dec (Opposite p x y x' y')
    go (yes e) (yes z) = yes (e, z)
    go (yes e) (no n) = no (λ o. n o.1)
    go (no n) d = no (λ o. n o.0)

-- infinity is neutral
pub add_left : (p a : ℕ) (Q : Point) → add p a infinity Q ≡ Q
unfolding add
add_left p a Q = refl

pub add_right : (p a : ℕ) (Q : Point) → add p a Q infinity ≡ Q
unfolding add
add_right p a infinity = refl
add_right p a (at x y) = refl

module _ {p : ℕ} (P : Prime p) (odd : 2 < p) (a b : ℕ) where
  h : 0 < p
  h = positive P

  -- y + y = 0 only for y = 0
  twice_zero : (y : ℕ) → Same p (plus p y y) 0 → Same p y 0
  twice_zero y z =
      let ρ : List ℕ = y ∷ [] in
      zero_product P 2 (below_nonzero (omega arith) odd) (combined h ρ (gap h ρ (var 0 ⊕ var 0) (num 0) z) (num 2 ⊗ var 0) tt).is_zero

  zero_twice : (y : ℕ) → Same p y 0 → Same p (plus p y y) 0
  zero_twice y z = let ρ : List ℕ = y ∷ [] in (combined h ρ (num 2 ⊡ gap h ρ (var 0) (num 0) z) (var 0 ⊕ var 0) tt).is_zero

  double_upright : (x y : ℕ) → y ≡ 0 → double p a (at x y) ≡ infinity
  unfolding double
  double_upright x y e = rw (eq-eqb y 0 e)

  double_sloping : (x y : ℕ) → NonZero p y → double p a (at x y) ≡ third p (tangent p a x y) x y x
  unfolding double
  double_sloping x y n = rw (ne_eqb y 0 (λ e. n (same_eq e)))

  pub add_opposite : (x y x' y' : ℕ) → y < p → Opposite p x y x' y' → add p a (at x y) (at x' y') ≡ infinity
  unfolding add
  add_opposite x y x' y' ly o = rw (eq-eqb x x' o.0) (go (eqb y y') refl)
    where
      go : (t : Bool) → eqb y y' ≡ t → cond t (double p a (at x y)) infinity ≡ infinity
      go true e =
          double_upright x y (below_zero ly (twice_zero y (same_eq (ap (λ (n : ℕ). plus p y n) (eqb-true y y' e)) then o.1)))
      go false e = refl

  -- on the curve, the same x means the same y or opposite ones
  same_or_opposite : (x y x' y' : ℕ) → equation p a b x y → equation p a b x' y' → x ≡ x' → Same p (minus p y y') 0 ⊎ Same p (plus p y y') 0
  same_or_opposite x y x' y' e e' ex =
      let ρ : List ℕ = a ∷ b ∷ x ∷ y ∷ x' ∷ y' ∷ [] in
      zero_factor P
      (combined h ρ
      (curve_of h ρ (var 0) (var 1) (var 2) (var 3) e
      ⊟ curve_of h ρ (var 0) (var 1) (var 4) (var 5) e'
      ⊞ (var 2 ⊗ var 2 ⊕ var 2 ⊗ var 4 ⊕ var 4 ⊗ var 4 ⊕ var 0) ⊡ gap h ρ (var 2) (var 4) (same_eq ex))
      ((var 3 ⊖ var 5) ⊗ (var 3 ⊕ var 5)) tt).is_zero

  module _ (x y x' y' : ℕ) (on : OnCurve p a b (at x y)) (on' : OnCurve p a b (at x' y')) (apart : Opposite p x y x' y' → ⊥) where
    pub differing : Same p (minus p x' x) 0 → NonZero p (plus p y y')
    differing z o = apart (sym (equal_below (none_minus h z) on'.0 on.0), o)

    same_y : x ≡ x' → y ≡ y'
    same_y e =
        ⊎_elim (λ z. equal_below (none_minus h z) on.1 on'.1) (λ z. absurd (apart (e, z)))
        (same_or_opposite x y x' y' on.2 on'.2 e)

    y_nonzero : y ≡ y' → x ≡ x' → NonZero p y
    y_nonzero ey ex z = apart (ex, same_eq (ap (λ (n : ℕ). plus p y n) (sym ey)) then zero_twice y z)

    -- there is a line
    pub slope : ℕ
    slope = cond (eqb x x') (tangent p a x y) (chord p x y x' y')

    pub slope_line : Line p a slope x y x' y'
    unfolding slope
    slope_line = go (eqb x x') refl
      where
        go : (t : Bool) → eqb x x' ≡ t → Line p a (cond t (tangent p a x y) (chord p x y x' y')) x y x' y'
        go true e =
            let ex : x ≡ x' = eqb-true x x' e in
            let ey : y ≡ y' = same_y ex in
            subst (λ (v : ℕ). Line p a (tangent p a x y) x y x' v) ey
            (subst (λ (u : ℕ). Line p a (tangent p a x y) x y u y) ex (tangent_line P odd a x y (y_nonzero ey ex)))
        go false e = chord_line P odd a b x y x' y' on.2 on'.2 (distinct P on.0 on'.0 (eqb-false x x' e))

    -- and the sum is its third point
    pub add_slope : add p a (at x y) (at x' y') ≡ third p slope x y x'
    unfolding add slope
    add_slope = go (eqb x x') refl
      where
        go : (t : Bool) → eqb x x' ≡ t
            → cond t (cond (eqb y y') (double p a (at x y)) infinity) (third p (chord p x y x' y') x y x')
            ≡ third p (cond t (tangent p a x y) (chord p x y x' y')) x y x'
        go true e =
            let ex : x ≡ x' = eqb-true x x' e in
            let ey : y ≡ y' = same_y ex in
            rw (eq-eqb y y' ey) (double_sloping x y (y_nonzero ey ex) ∙ ap (λ (u : ℕ). third p (tangent p a x y) x y u) ex)
        go false e = refl

    pub add_line : (l : ℕ) → Line p a l x y x' y' → add p a (at x y) (at x' y') ≡ third p l x y x'
    add_line l L = add_slope ∙ third_same h slope l x y x' (slopes P odd a slope l x y x' y' slope_line L differing)

  pub third_point_on : (l x y x' y' : ℕ) → OnCurve p a b (at x y) → Line p a l x y x' y' → OnCurve p a b (third p l x y x')
  unfolding third
  third_point_on l x y x' y' on L =
      (third-X-below h l x x', third-Y-below h l x y (third_x p l x x'), third_on h a b l x y x' y' on.2 L)

  finite_on : (x y x' y' : ℕ) → OnCurve p a b (at x y) → OnCurve p a b (at x' y') → Dec (Opposite p x y x' y')
      → OnCurve p a b (add p a (at x y) (at x' y'))
  finite_on x y x' y' on on' (yes o) = rw (add_opposite x y x' y' on.1 o) tt
  finite_on x y x' y' on on' (no n) =
      rw (add_slope x y x' y' on on' n) (third_point_on (slope x y x' y' on on' n) x y x' y' on (slope_line x y x' y' on on' n))

  pub opposite_back : (x y x' y' : ℕ) → Opposite p x y x' y' → Opposite p x' y' x y
  opposite_back x y x' y' o =
      let ρ : List ℕ = y ∷ y' ∷ [] in (sym o.0, follows h ρ none (var 1 ⊕ var 0) (var 0 ⊕ var 1) tt then o.1)

  finite_comm : (x y x' y' : ℕ) → OnCurve p a b (at x y) → OnCurve p a b (at x' y') → Dec (Opposite p x y x' y')
      → add p a (at x y) (at x' y') ≡ add p a (at x' y') (at x y)
  finite_comm x y x' y' on on' (yes o) =
      add_opposite x y x' y' on.1 o ∙ sym (add_opposite x' y' x y on'.1 (opposite_back x y x' y' o))
  finite_comm x y x' y' on on' (no n) =
      let l : ℕ = slope x y x' y' on on' n in
      let L : Line p a l x y x' y' = slope_line x y x' y' on on' n in
      add_slope x y x' y' on on' n
      ∙ third_flip h a l x y x' y' L
      ∙ sym (add_line x' y' x y on' on (λ o. n (opposite_back x' y' x y o)) l (flip h a l x y x' y' L))

  pub add_on : (Q R : Point) → OnCurve p a b Q → OnCurve p a b R → OnCurve p a b (add p a Q R)
  unfolding add
  add_on infinity R on on' = on'
  add_on (at x y) infinity on on' = on
  add_on (at x y) (at x' y') on on' = finite_on x y x' y' on on' (opposite? p x y x' y')

  pub add_comm : (Q R : Point) → OnCurve p a b Q → OnCurve p a b R → add p a Q R ≡ add p a R Q
  unfolding add
  add_comm infinity infinity on on' = refl
  add_comm infinity (at x y) on on' = refl
  add_comm (at x y) infinity on on' = refl
  add_comm (at x y) (at x' y') on on' = finite_comm x y x' y' on on' (opposite? p x y x' y')
