-- Identities behind associativity. For lines of slopes l through P₁ and P₂ and m through P₂ and P₃, with S = P₁ + P₂: where l = m and P₁ and P₃
-- have another x, S is opposite to P₃; else the t with t (m - l) = x₃ - x₁ makes t - l the slope of a line through S and P₃. And for P opposite to P₁, the
-- line of slope -l through P and S leads back to P₂, unless P₁ is a singular point of the curve.
use mathlib.Core.List.{List, [], ◌∷◌}
use Prim.Native.Nat.{ℕ, ◌<◌}
use native.Mathlib.Omega.{arith}
use Rattle.curve_laws.specs.Modulo.{plus, times, minus}
use Rattle.curve_laws.specs.Points.{equation, discriminant, third_x, third_y}
use Rattle.curve_laws.specs.Valid.{Prime}
use Rattle.curve_laws.proofs.Modular.{Same}
use Rattle.curve_laws.proofs.Ring.{Expr, var, num, ◌⊕◌, ◌⊖◌, ◌⊗◌, Zero, none, ◌⊞◌, ◌⊟◌, ◌⊡◌, gap, combined, follows}
use Rattle.curve_laws.proofs.Field.{NonZero, positive, below_nonzero, divided, follows_divided}
use Rattle.curve_laws.proofs.Lines.{Line, rises, bends, new_x, new_y, rise_of, bend_of, curve_of, line_of, a, l, x₁, y₁, x₂, y₂, x₃, y₃, b, m}

-- the parameter t
abbrev t : Expr
t = var 10

-- x₁ + x₂ + x₃
abbrev σ : Expr
σ = x₁ ⊕ x₂ ⊕ x₃

-- the sum of P₁ and P₂
abbrev xₛ : Expr
xₛ = new_x l x₁ x₂

abbrev yₛ : Expr
yₛ = new_y l x₁ y₁ xₛ

module _ {p : ℕ} (P : Prime p) (odd : 2 < p) where
  h : 0 < p
  h = positive P

  -- ---- three points of one line

  module _ (a₀ l₀ u₁ v₁ u₂ v₂ u₃ v₃ : ℕ) (L : Line p a₀ l₀ u₁ v₁ u₂ v₂) (M : Line p a₀ l₀ u₂ v₂ u₃ v₃) where
    abbrev ρ₁ : List ℕ
    ρ₁ = a₀ ∷ l₀ ∷ u₁ ∷ v₁ ∷ u₂ ∷ v₂ ∷ u₃ ∷ v₃ ∷ []

    pub in_line_x : NonZero p (minus p u₃ u₁) → Same p (third_x p l₀ u₁ u₂) u₃
    unfolding third_x
    in_line_x some =
        follows_divided P
        (bend_of h ρ₁ a l x₂ y₂ x₃ y₃ M ⊟ bend_of h ρ₁ a l x₁ y₁ x₂ y₂ L ⊞ l ⊡ (rise_of h ρ₁ a l x₂ y₂ x₃ y₃ M ⊞ rise_of h ρ₁ a l x₁ y₁ x₂ y₂ L))
        (x₃ ⊖ x₁) xₛ x₃ some tt

    pub in_line_y : Same p (third_x p l₀ u₁ u₂) u₃ → Same p (plus p (third_y p l₀ u₁ v₁ (third_x p l₀ u₁ u₂)) v₃) 0
    unfolding third_x third_y
    in_line_y e =
        follows h ρ₁ (none ⊟ l ⊡ gap h ρ₁ xₛ x₃ e ⊟ rise_of h ρ₁ a l x₁ y₁ x₂ y₂ L ⊟ rise_of h ρ₁ a l x₂ y₂ x₃ y₃ M) (yₛ ⊕ y₃) (num 0) tt

    -- where P₁ and P₃ have the same x, they are the same
    pub in_line_same : Same p u₁ u₃ → Same p v₁ v₃
    in_line_same e =
        follows h ρ₁ (rise_of h ρ₁ a l x₁ y₁ x₂ y₂ L ⊞ rise_of h ρ₁ a l x₂ y₂ x₃ y₃ M ⊞ l ⊡ gap h ρ₁ x₁ x₃ e) y₁ y₃ tt

  -- ---- two lines

  module _ (a₀ l₀ m₀ t₀ u₁ v₁ u₂ v₂ u₃ v₃ : ℕ) (L : Line p a₀ l₀ u₁ v₁ u₂ v₂) (M : Line p a₀ m₀ u₂ v₂ u₃ v₃) (differ : NonZero p (minus p m₀ l₀))
      (parameter : Same p (times p t₀ (minus p m₀ l₀)) (minus p u₃ u₁)) where
    abbrev ρ₂ : List ℕ
    ρ₂ = a₀ ∷ l₀ ∷ u₁ ∷ v₁ ∷ u₂ ∷ v₂ ∷ u₃ ∷ v₃ ∷ 0 ∷ m₀ ∷ t₀ ∷ []

    J : Zero p ρ₂ (t ⊗ (m ⊖ l) ⊖ (x₃ ⊖ x₁))
    J = gap h ρ₂ (t ⊗ (m ⊖ l)) (x₃ ⊖ x₁) parameter

    Rₗ : Zero p ρ₂ (rises l x₁ y₁ x₂ y₂)
    Rₗ = rise_of h ρ₂ a l x₁ y₁ x₂ y₂ L

    Rₘ : Zero p ρ₂ (rises m x₂ y₂ x₃ y₃)
    Rₘ = rise_of h ρ₂ a m x₂ y₂ x₃ y₃ M

    Tₗ : Zero p ρ₂ (bends a l x₁ y₁ x₂ y₂)
    Tₗ = bend_of h ρ₂ a l x₁ y₁ x₂ y₂ L

    Tₘ : Zero p ρ₂ (bends a m x₂ y₂ x₃ y₃)
    Tₘ = bend_of h ρ₂ a m x₂ y₂ x₃ y₃ M

    -- t (σ - l m) = y₁ + y₃
    K : Zero p ρ₂ (t ⊗ (σ ⊖ l ⊗ m) ⊖ (y₁ ⊕ y₃))
    K = divided P ((σ ⊖ l ⊗ m) ⊡ J ⊞ Tₗ ⊟ Tₘ ⊟ l ⊡ Rₘ ⊟ m ⊡ Rₗ) (m ⊖ l) (t ⊗ (σ ⊖ l ⊗ m) ⊖ (y₁ ⊕ y₃)) differ tt

    pub joined : Line p a₀ (minus p t₀ l₀) (third_x p l₀ u₁ u₂) (third_y p l₀ u₁ v₁ (third_x p l₀ u₁ u₂)) u₃ v₃
    unfolding third_x third_y
    joined =
        line_of h ρ₂ a (t ⊖ l) xₛ yₛ x₃ y₃ (combined h ρ₂ (K ⊞ l ⊡ J) (rises (t ⊖ l) xₛ yₛ x₃ y₃) tt)
        (combined h ρ₂ (Tₗ ⊞ (l ⊖ t) ⊡ Rₗ ⊟ t ⊡ Rₘ ⊞ l ⊡ K ⊞ (l ⊗ l ⊖ x₂ ⊕ x₃) ⊡ J) (bends a (t ⊖ l) xₛ yₛ x₃ y₃) tt)

    -- (P₁ + P₂) + P₃ and P₁ + (P₂ + P₃)
    pub joined_x : Same p (third_x p (minus p t₀ l₀) (third_x p l₀ u₁ u₂) u₃) (third_x p (minus p t₀ m₀) u₁ (third_x p m₀ u₃ u₂))
    unfolding third_x
    joined_x = follows h ρ₂ (num 2 ⊡ J) (new_x (t ⊖ l) xₛ x₃) (new_x (t ⊖ m) x₁ (new_x m x₃ x₂)) tt

    pub joined_y : Same p
        (third_y p (minus p t₀ l₀) (third_x p l₀ u₁ u₂) (third_y p l₀ u₁ v₁ (third_x p l₀ u₁ u₂)) (third_x p (minus p t₀ l₀) (third_x p l₀ u₁ u₂) u₃))
        (third_y p (minus p t₀ m₀) u₁ v₁ (third_x p (minus p t₀ m₀) u₁ (third_x p m₀ u₃ u₂)))
    unfolding third_x third_y
    joined_y =
        follows h ρ₂ (Rₗ ⊞ Rₘ ⊟ K ⊞ (l ⊕ num 2 ⊗ m ⊖ num 3 ⊗ t) ⊡ J) (new_y (t ⊖ l) xₛ yₛ (new_x (t ⊖ l) xₛ x₃))
        (new_y (t ⊖ m) x₁ y₁ (new_x (t ⊖ m) x₁ (new_x m x₃ x₂))) tt

  -- ---- P = (x₃, y₃) opposite to P₁

  module _ (a₀ b₀ l₀ u₁ v₁ u₂ v₂ u₃ v₃ : ℕ) (L : Line p a₀ l₀ u₁ v₁ u₂ v₂) (ex : Same p u₃ u₁) (ey : Same p (plus p v₃ v₁) 0) where
    abbrev ρ₃ : List ℕ
    ρ₃ = a₀ ∷ l₀ ∷ u₁ ∷ v₁ ∷ u₂ ∷ v₂ ∷ u₃ ∷ v₃ ∷ b₀ ∷ []

    R : Zero p ρ₃ (rises l x₁ y₁ x₂ y₂)
    R = rise_of h ρ₃ a l x₁ y₁ x₂ y₂ L

    T : Zero p ρ₃ (bends a l x₁ y₁ x₂ y₂)
    T = bend_of h ρ₃ a l x₁ y₁ x₂ y₂ L

    Ux : Zero p ρ₃ (x₃ ⊖ x₁)
    Ux = gap h ρ₃ x₃ x₁ ex

    Uy : Zero p ρ₃ (y₃ ⊕ y₁ ⊖ num 0)
    Uy = gap h ρ₃ (y₃ ⊕ y₁) (num 0) ey

    pub mirrored : Line p a₀ (minus p 0 l₀) u₃ v₃ (third_x p l₀ u₁ u₂) (third_y p l₀ u₁ v₁ (third_x p l₀ u₁ u₂))
    unfolding third_x third_y
    mirrored =
        line_of h ρ₃ a (num 0 ⊖ l) x₃ y₃ xₛ yₛ (combined h ρ₃ (Uy ⊞ l ⊡ Ux) (rises (num 0 ⊖ l) x₃ y₃ xₛ yₛ) tt)
        (combined h ρ₃ (T ⊞ l ⊡ R ⊟ l ⊡ Uy ⊞ (x₂ ⊖ x₃ ⊖ l ⊗ l) ⊡ Ux) (bends a (num 0 ⊖ l) x₃ y₃ xₛ yₛ) tt)

    pub mirrored_x : Same p (third_x p (minus p 0 l₀) u₃ (third_x p l₀ u₁ u₂)) u₂
    unfolding third_x
    mirrored_x = follows h ρ₃ (none ⊟ Ux) (new_x (num 0 ⊖ l) x₃ xₛ) x₂ tt

    pub mirrored_y : Same p (third_y p (minus p 0 l₀) u₃ v₃ (third_x p (minus p 0 l₀) u₃ (third_x p l₀ u₁ u₂))) v₂
    unfolding third_x third_y
    mirrored_y = follows h ρ₃ (R ⊟ Uy ⊟ (num 2 ⊗ l) ⊡ Ux) (new_y (num 0 ⊖ l) x₃ y₃ (new_x (num 0 ⊖ l) x₃ xₛ)) y₂ tt

    -- if P is opposite to that third point too, then y = 0 and 3 x² + a = 0: the curve is singular there
    module _ (on : equation p a₀ b₀ u₃ v₃) (fx : Same p (third_x p l₀ u₁ u₂) u₃) (fy : Same p (plus p (third_y p l₀ u₁ v₁ (third_x p l₀ u₁ u₂)) v₃) 0) where
      Vx : Zero p ρ₃ (xₛ ⊖ x₃)
      unfolding third_x
      Vx = gap h ρ₃ xₛ x₃ fx

      Vy : Zero p ρ₃ (yₛ ⊕ y₃ ⊖ num 0)
      unfolding third_x third_y
      Vy = gap h ρ₃ (yₛ ⊕ y₃) (num 0) fy

      Y : Zero p ρ₃ y₃
      Y = divided P (Vy ⊞ Uy ⊞ l ⊡ (Vx ⊞ Ux)) (num 2) y₃ (below_nonzero (omega arith) odd) tt

      flat : Zero p ρ₃ (num 3 ⊗ (x₃ ⊗ x₃) ⊕ a)
      flat =
          combined h ρ₃
          (none ⊟ T ⊟ l ⊡ R ⊞ (x₂ ⊖ x₃) ⊡ Vx ⊞ (num 2 ⊗ l) ⊡ Uy ⊞ (l ⊗ l ⊕ num 2 ⊗ x₃ ⊕ x₁) ⊡ Ux ⊟ (num 2 ⊗ l) ⊡ Y)
          (num 3 ⊗ (x₃ ⊗ x₃) ⊕ a) tt

      pub singular : Same p (discriminant p a₀ b₀) 0
      unfolding discriminant
      singular =
          (combined h ρ₃
          ((num 27 ⊗ (a ⊗ x₃ ⊖ b ⊕ x₃ ⊗ (x₃ ⊗ x₃) ⊖ y₃ ⊗ y₃)) ⊡ curve_of h ρ₃ a b x₃ y₃ on
          ⊞ (num 4 ⊗ (a ⊗ a) ⊕ num 15 ⊗ (a ⊗ (x₃ ⊗ x₃)) ⊕ num 9 ⊗ (x₃ ⊗ x₃ ⊗ (x₃ ⊗ x₃)) ⊖ num 54 ⊗ (x₃ ⊗ (y₃ ⊗ y₃))) ⊡ flat
          ⊞ (num 27 ⊗ y₃ ⊗ (num 4 ⊗ (x₃ ⊗ (x₃ ⊗ x₃)) ⊕ y₃ ⊗ y₃)) ⊡ Y)
          (num 4 ⊗ (a ⊗ (a ⊗ a)) ⊕ num 27 ⊗ (b ⊗ b)) tt).is_zero
