-- A line through two points of a curve, chord or tangent alike, by two equations of its slope l: the rise l (x₂ - x₁) = y₂ - y₁, and the bend
-- l (y₁ + y₂) = x₁² + x₁ x₂ + x₂² + a, which on the curve follows from the rise where x₁ and x₂ differ. Points that are not opposite have one such
-- slope; the third point is on the curve; and the line goes through its opposite as through the two.
use mathlib.Core.Path.{◌≡◌, ap₂}
use mathlib.Core.List.{List, [], ◌∷◌}
use Prim.Native.Nat.{ℕ, ◌<◌}
use Rattle.curve_laws.specs.Modulo.{plus, times, minus}
use Rattle.curve_laws.specs.Points.{at, equation, third, third_x, third_y, chord, tangent}
use Rattle.curve_laws.specs.Valid.{Prime}
use Rattle.curve_laws.proofs.Modular.{Same, same_eq, equal_below}
use Rattle.curve_laws.proofs.Modulo.{plus_below, times_below, minus_below, none_minus}
use Rattle.curve_laws.proofs.Ring.{Expr, var, num, ◌⊕◌, ◌⊖◌, ◌⊗◌, value, Zero, none, ◌⊞◌, ◌⊟◌, ◌⊡◌, gap, combined, follows}
use Rattle.curve_laws.proofs.Field.{NonZero, positive, same?, divided, follows_divided}
use Rattle.curve_laws.proofs.Slopes.{chord_slope, tangent_slope}

pub record Line (p a l x₁ y₁ x₂ y₂ : ℕ) : Type 0 where
  pub rise : Same p (times p l (minus p x₂ x₁)) (minus p y₂ y₁)
  pub bend : Same p (times p l (plus p y₁ y₂)) (plus p (plus p (plus p (times p x₁ x₁) (times p x₁ x₂)) (times p x₂ x₂)) a)

-- ---- the equations as expressions that are 0

abbrev pub rises : Expr → Expr → Expr → Expr → Expr → Expr
rises l x₁ y₁ x₂ y₂ = l ⊗ (x₂ ⊖ x₁) ⊖ (y₂ ⊖ y₁)

abbrev pub bends : Expr → Expr → Expr → Expr → Expr → Expr → Expr
bends a l x₁ y₁ x₂ y₂ = l ⊗ (y₁ ⊕ y₂) ⊖ (x₁ ⊗ x₁ ⊕ x₁ ⊗ x₂ ⊕ x₂ ⊗ x₂ ⊕ a)

abbrev pub curves : Expr → Expr → Expr → Expr → Expr
curves a b x y = y ⊗ y ⊖ (x ⊗ (x ⊗ x) ⊕ a ⊗ x ⊕ b)

-- the third point
abbrev pub new_x : Expr → Expr → Expr → Expr
new_x l x₁ x₂ = l ⊗ l ⊖ x₁ ⊖ x₂

abbrev pub new_y : Expr → Expr → Expr → Expr → Expr
new_y l x₁ y₁ x₃ = l ⊗ (x₁ ⊖ x₃) ⊖ y₁

module _ {p : ℕ} (h : 0 < p) (ρ : List ℕ) where
  pub rise_of : (a l x₁ y₁ x₂ y₂ : Expr) → Line p (value p ρ a) (value p ρ l) (value p ρ x₁) (value p ρ y₁) (value p ρ x₂) (value p ρ y₂)
      → Zero p ρ (rises l x₁ y₁ x₂ y₂)
  rise_of a l x₁ y₁ x₂ y₂ L = gap h ρ (l ⊗ (x₂ ⊖ x₁)) (y₂ ⊖ y₁) L.rise

  pub bend_of : (a l x₁ y₁ x₂ y₂ : Expr) → Line p (value p ρ a) (value p ρ l) (value p ρ x₁) (value p ρ y₁) (value p ρ x₂) (value p ρ y₂)
      → Zero p ρ (bends a l x₁ y₁ x₂ y₂)
  bend_of a l x₁ y₁ x₂ y₂ L = gap h ρ (l ⊗ (y₁ ⊕ y₂)) (x₁ ⊗ x₁ ⊕ x₁ ⊗ x₂ ⊕ x₂ ⊗ x₂ ⊕ a) L.bend

  pub curve_of : (a b x y : Expr) → equation p (value p ρ a) (value p ρ b) (value p ρ x) (value p ρ y) → Zero p ρ (curves a b x y)
  unfolding equation
  curve_of a b x y e = gap h ρ (y ⊗ y) (x ⊗ (x ⊗ x) ⊕ a ⊗ x ⊕ b) (same_eq e)

  equation_of : (a b x y : Expr) → Zero p ρ (curves a b x y) → equation p (value p ρ a) (value p ρ b) (value p ρ x) (value p ρ y)
  unfolding equation
  equation_of a b x y z =
      equal_below (none_minus h z.is_zero) (times_below h (value p ρ y) (value p ρ y))
      (plus_below h (value p ρ (x ⊗ (x ⊗ x) ⊕ a ⊗ x)) (value p ρ b))

  pub line_of : (a l x₁ y₁ x₂ y₂ : Expr) → Zero p ρ (rises l x₁ y₁ x₂ y₂) → Zero p ρ (bends a l x₁ y₁ x₂ y₂)
      → Line p (value p ρ a) (value p ρ l) (value p ρ x₁) (value p ρ y₁) (value p ρ x₂) (value p ρ y₂)
  line_of a l x₁ y₁ x₂ y₂ r t = record { rise = none_minus h r.is_zero; bend = none_minus h t.is_zero }

-- the unknowns of the identities
abbrev pub a : Expr
a = var 0

abbrev pub l : Expr
l = var 1

abbrev pub x₁ : Expr
x₁ = var 2

abbrev pub y₁ : Expr
y₁ = var 3

abbrev pub x₂ : Expr
x₂ = var 4

abbrev pub y₂ : Expr
y₂ = var 5

abbrev pub x₃ : Expr
x₃ = var 6

abbrev pub y₃ : Expr
y₃ = var 7

abbrev pub b : Expr
b = var 8

abbrev pub m : Expr
m = var 9

-- ---- laws of lines

module _ {p : ℕ} (h : 0 < p) where
  pub flip : (a₀ l₀ u v u' v' : ℕ) → Line p a₀ l₀ u v u' v' → Line p a₀ l₀ u' v' u v
  flip a₀ l₀ u v u' v' L =
      let ρ : List ℕ = a₀ ∷ l₀ ∷ u ∷ v ∷ u' ∷ v' ∷ [] in
      line_of h ρ a l x₂ y₂ x₁ y₁
      (combined h ρ (none ⊟ rise_of h ρ a l x₁ y₁ x₂ y₂ L) (rises l x₂ y₂ x₁ y₁) tt)
      (combined h ρ (bend_of h ρ a l x₁ y₁ x₂ y₂ L) (bends a l x₂ y₂ x₁ y₁) tt)

  -- the slope counts modulo p
  pub resloped : (a₀ l₀ m₀ u v u' v' : ℕ) → Same p l₀ m₀ → Line p a₀ m₀ u v u' v' → Line p a₀ l₀ u v u' v'
  resloped a₀ l₀ m₀ u v u' v' e L =
      let ρ : List ℕ = a₀ ∷ l₀ ∷ u ∷ v ∷ u' ∷ v' ∷ 0 ∷ 0 ∷ 0 ∷ m₀ ∷ [] in
      let D = gap h ρ l m e in
      line_of h ρ a l x₁ y₁ x₂ y₂
      (combined h ρ (rise_of h ρ a m x₁ y₁ x₂ y₂ L ⊞ (x₂ ⊖ x₁) ⊡ D) (rises l x₁ y₁ x₂ y₂) tt)
      (combined h ρ (bend_of h ρ a m x₁ y₁ x₂ y₂ L ⊞ (y₁ ⊕ y₂) ⊡ D) (bends a l x₁ y₁ x₂ y₂) tt)

  -- the line through two points goes through the third's opposite
  pub onward : (a₀ l₀ u v u' v' u'' v'' : ℕ) → Line p a₀ l₀ u v u' v' → Same p (third_x p l₀ u u') u''
      → Same p (plus p (third_y p l₀ u v (third_x p l₀ u u')) v'') 0 → Line p a₀ l₀ u' v' u'' v''
  unfolding third_x third_y
  onward a₀ l₀ u v u' v' u'' v'' L ex ey =
      let ρ : List ℕ = a₀ ∷ l₀ ∷ u ∷ v ∷ u' ∷ v' ∷ u'' ∷ v'' ∷ [] in
      let R = rise_of h ρ a l x₁ y₁ x₂ y₂ L in
      let T = bend_of h ρ a l x₁ y₁ x₂ y₂ L in
      let Ex = gap h ρ (new_x l x₁ x₂) x₃ ex in
      let Ey = gap h ρ (new_y l x₁ y₁ (new_x l x₁ x₂) ⊕ y₃) (num 0) ey in
      line_of h ρ a l x₂ y₂ x₃ y₃
      (combined h ρ (none ⊟ Ey ⊟ l ⊡ Ex ⊟ R) (rises l x₂ y₂ x₃ y₃) tt)
      (combined h ρ (T ⊞ l ⊡ Ey ⊞ (l ⊗ l ⊖ x₁ ⊕ x₃) ⊡ Ex) (bends a l x₂ y₂ x₃ y₃) tt)

  -- the third point is on the curve
  pub third_on : (a₀ b₀ l₀ u v u' v' : ℕ) → equation p a₀ b₀ u v → Line p a₀ l₀ u v u' v'
      → equation p a₀ b₀ (third_x p l₀ u u') (third_y p l₀ u v (third_x p l₀ u u'))
  unfolding third_x third_y
  third_on a₀ b₀ l₀ u v u' v' e L =
      let ρ : List ℕ = a₀ ∷ l₀ ∷ u ∷ v ∷ u' ∷ v' ∷ 0 ∷ 0 ∷ b₀ ∷ [] in
      equation_of h ρ a b (new_x l x₁ x₂) (new_y l x₁ y₁ (new_x l x₁ x₂))
      (combined h ρ
      (curve_of h ρ a b x₁ y₁ e ⊞ (new_x l x₁ x₂ ⊖ x₁) ⊡ (bend_of h ρ a l x₁ y₁ x₂ y₂ L ⊞ l ⊡ rise_of h ρ a l x₁ y₁ x₂ y₂ L))
      (curves a b (new_x l x₁ x₂) (new_y l x₁ y₁ (new_x l x₁ x₂))) tt)

  pub third-X-below : (l₀ u u' : ℕ) → third_x p l₀ u u' < p
  unfolding third_x
  third-X-below l₀ u u' = minus_below h (minus p (times p l₀ l₀) u) u'

  pub third-Y-below : (l₀ u v u'' : ℕ) → third_y p l₀ u v u'' < p
  unfolding third_y
  third-Y-below l₀ u v u'' = minus_below h (times p l₀ (minus p u u'')) v

  -- the third point by its coordinates modulo p
  pub third_is : (l₀ u v u' : ℕ) {x y : ℕ} → x < p → y < p → Same p (third_x p l₀ u u') x → Same p (third_y p l₀ u v (third_x p l₀ u u')) y
      → third p l₀ u v u' ≡ at x y
  unfolding third
  third_is l₀ u v u' lx ly ex ey =
      ap₂ at (equal_below ex (third-X-below l₀ u u') lx) (equal_below ey (third-Y-below l₀ u v (third_x p l₀ u u')) ly)

  pub thirds : (l₀ u v u' m₀ w z w' : ℕ) → Same p (third_x p l₀ u u') (third_x p m₀ w w')
      → Same p (third_y p l₀ u v (third_x p l₀ u u')) (third_y p m₀ w z (third_x p m₀ w w')) → third p l₀ u v u' ≡ third p m₀ w z w'
  unfolding third
  thirds l₀ u v u' m₀ w z w' = third_is l₀ u v u' (third-X-below m₀ w w') (third-Y-below m₀ w z (third_x p m₀ w w'))

  -- it reads the slope modulo p, and is the same from either end
  pub third_same : (l₀ m₀ u v u' : ℕ) → Same p l₀ m₀ → third p l₀ u v u' ≡ third p m₀ u v u'
  unfolding third_x third_y
  third_same l₀ m₀ u v u' e =
      let ρ : List ℕ = 0 ∷ l₀ ∷ u ∷ v ∷ u' ∷ 0 ∷ 0 ∷ 0 ∷ 0 ∷ m₀ ∷ [] in
      let D = gap h ρ l m e in
      thirds l₀ u v u' m₀ u v u' (follows h ρ ((l ⊕ m) ⊡ D) (new_x l x₁ x₂) (new_x m x₁ x₂) tt)
      (follows h ρ ((num 2 ⊗ x₁ ⊕ x₂ ⊖ (l ⊗ l ⊕ l ⊗ m ⊕ m ⊗ m)) ⊡ D) (new_y l x₁ y₁ (new_x l x₁ x₂)) (new_y m x₁ y₁ (new_x m x₁ x₂)) tt)

  pub third_flip : (a₀ l₀ u v u' v' : ℕ) → Line p a₀ l₀ u v u' v' → third p l₀ u v u' ≡ third p l₀ u' v' u
  unfolding third_x third_y
  third_flip a₀ l₀ u v u' v' L =
      let ρ : List ℕ = a₀ ∷ l₀ ∷ u ∷ v ∷ u' ∷ v' ∷ [] in
      thirds l₀ u v u' l₀ u' v' u (follows h ρ none (new_x l x₁ x₂) (new_x l x₂ x₁) tt)
      (follows h ρ (none ⊟ rise_of h ρ a l x₁ y₁ x₂ y₂ L) (new_y l x₁ y₁ (new_x l x₁ x₂)) (new_y l x₂ y₂ (new_x l x₂ x₁)) tt)

module _ {p : ℕ} (P : Prime p) (odd : 2 < p) where
  h : 0 < p
  h = positive P

  pub chord_line : (a₀ b₀ u v u' v' : ℕ) → equation p a₀ b₀ u v → equation p a₀ b₀ u' v' → NonZero p (minus p u' u)
      → Line p a₀ (chord p u v u' v') u v u' v'
  chord_line a₀ b₀ u v u' v' e e' some =
      let ρ : List ℕ = a₀ ∷ chord p u v u' v' ∷ u ∷ v ∷ u' ∷ v' ∷ 0 ∷ 0 ∷ b₀ ∷ [] in
      let R = gap h ρ (l ⊗ (x₂ ⊖ x₁)) (y₂ ⊖ y₁) (chord_slope P u v u' v' some) in
      line_of h ρ a l x₁ y₁ x₂ y₂ R
      (divided P ((y₁ ⊕ y₂) ⊡ R ⊞ curve_of h ρ a b x₂ y₂ e' ⊟ curve_of h ρ a b x₁ y₁ e) (x₂ ⊖ x₁) (bends a l x₁ y₁ x₂ y₂) some tt)

  pub tangent_line : (a₀ u v : ℕ) → NonZero p v → Line p a₀ (tangent p a₀ u v) u v u v
  tangent_line a₀ u v some =
      let ρ : List ℕ = a₀ ∷ tangent p a₀ u v ∷ u ∷ v ∷ [] in
      let T = gap h ρ (l ⊗ (num 2 ⊗ y₁)) (num 3 ⊗ (x₁ ⊗ x₁) ⊕ a) (tangent_slope P odd a₀ u v some) in
      line_of h ρ a l x₁ y₁ x₁ y₁ (combined h ρ none (rises l x₁ y₁ x₁ y₁) tt) (combined h ρ T (bends a l x₁ y₁ x₁ y₁) tt)

  -- two slopes through points that are not opposite are the same
  pub slopes : (a₀ l₀ m₀ u v u' v' : ℕ) → Line p a₀ l₀ u v u' v' → Line p a₀ m₀ u v u' v' → (Same p (minus p u' u) 0 → NonZero p (plus p v v'))
      → Same p l₀ m₀
  slopes a₀ l₀ m₀ u v u' v' L M apart = go (same? p (minus p u' u) 0)
    where
      ρ : List ℕ
      ρ = a₀ ∷ l₀ ∷ u ∷ v ∷ u' ∷ v' ∷ 0 ∷ 0 ∷ 0 ∷ m₀ ∷ []

      go : Dec (Same p (minus p u' u) 0) → Same p l₀ m₀
      go (no some) =
          follows_divided P (rise_of h ρ a l x₁ y₁ x₂ y₂ L ⊟ rise_of h ρ a m x₁ y₁ x₂ y₂ M) (x₂ ⊖ x₁) l m some tt
      go (yes z) =
          follows_divided P (bend_of h ρ a l x₁ y₁ x₂ y₂ L ⊟ bend_of h ρ a m x₁ y₁ x₂ y₂ M) (y₁ ⊕ y₂) l m (apart z) tt
