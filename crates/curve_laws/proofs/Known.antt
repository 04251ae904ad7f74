-- A multiple of a point that antt computes by the binary method is the multiple: a triple stands for one point only, so that products decide
-- which, with no inversion.
use mathlib.Core.Path.{◌≡◌, refl, ap₂}
use mathlib.Core.Bool.{Bool, ◌&&◌}
use mathlib.Core.List.{List, [], ◌∷◌}
use Prim.Native.Nat.{ℕ, ◌^◌, ◌<◌}
use lib.Dec.{T, eqb, ltb, ltb→lt, eqb→eq}
use Rattle.curve_laws.specs.Modulo.{plus, times}
use Rattle.curve_laws.specs.Points.{Point, infinity, at, OnCurve, discriminant, total}
use Rattle.curve_laws.specs.Valid.{Prime}
use Rattle.curve_laws.proofs.Tests.{both}
use Rattle.curve_laws.proofs.Modular.{Same, same_eq, equal_below}
use Rattle.curve_laws.proofs.Field.{NonZero, positive, times_nonzero, below_nonzero, follows_divided}
use Rattle.curve_laws.proofs.Ring.{var, ◌⊗◌, ◌⊟◌, gap}
use Rattle.curve_laws.proofs.Multiples.{total_on}
use Rattle.curve_laws.proofs.Jacobian.{Triple, Below, Stands, binary}
use Rattle.curve_laws.proofs.Binary.{below_of, binary_stands}

-- the triple stands for the point
abbrev within : ℕ → ℕ → ℕ → Bool
within p x y = ltb x p && ltb y p

abbrev scaled : ℕ → ℕ → ℕ → Triple → Bool
scaled p x y j =
    eqb (times p x (times p j.Z j.Z)) j.X && eqb (times p y (times p j.Z (times p j.Z j.Z))) j.Y

abbrev pub meets : ℕ → Point → Triple → Bool
meets p infinity j = eqb j.Z 0
meets p (at x y) j = ltb 0 j.Z && (within p x y && scaled p x y j)

module _ {p : ℕ} (P : Prime p) where
  h : 0 < p
  h = positive P

  -- a Z^k = b Z^k for Z other than 0
  same_quotient : (u v c w : ℕ) → NonZero p c → Same p (times p u c) w → Same p (times p v c) w → Same p u v
  same_quotient u v c w some e f =
      let ρ : List ℕ = u ∷ v ∷ c ∷ w ∷ [] in
      follows_divided P (gap h ρ (var 0 ⊗ var 2) (var 3) e ⊟ gap h ρ (var 1 ⊗ var 2) (var 3) f) (var 2) (var 0) (var 1) some tt

  -- one triple, one point
  one_point : (j : Triple) (Q R : Point) → Below p Q → Below p R → Stands p j Q → Stands p j R → Q ≡ R
  one_point j infinity infinity b b' s s' = refl
  one_point j (at x y) infinity b b' s s' = absurd (s.shape.0 (same_eq s'.shape))
  one_point j infinity (at x y) b b' s s' = absurd (s'.shape.0 (same_eq s.shape))
  one_point j (at x y) (at x' y') b b' s s' =
      let z : ℕ = j.Z in
      let some : NonZero p z = s.shape.0 in
      ap₂ at
      (equal_below (same_quotient x x' (times p z z) j.X (times_nonzero P some some) s.shape.1 s'.shape.1) b.0 b'.0)
      (equal_below
      (same_quotient y y' (times p z (times p z z)) j.Y (times_nonzero P some (times_nonzero P some some)) s.shape.2 s'.shape.2)
      b.1 b'.1)

  meets_below : (j : Triple) (R : Point) → T (meets p R j) → Below p R
  meets_below j infinity t = tt
  meets_below j (at x y) t =
      let parts = both (within p x y) (scaled p x y j) (both (ltb 0 j.Z) (within p x y && scaled p x y j) t).1 in
      let sides = both (ltb x p) (ltb y p) parts.0 in
      (ltb→lt x p sides.0, ltb→lt y p sides.1)

  meets_stands : (j : Triple) (R : Point) → j.Z < p → T (meets p R j) → Stands p j R
  meets_stands j infinity l t = record { below = l; shape = eqb→eq j.Z 0 t }
  meets_stands j (at x y) l t =
      let z : ℕ = j.Z in
      let all = both (ltb 0 z) (within p x y && scaled p x y j) t in
      let parts = both (within p x y) (scaled p x y j) all.1 in
      let sides = both (eqb (times p x (times p z z)) j.X) (eqb (times p y (times p z (times p z z))) j.Y) parts.1 in
      record {
        below = l;
        shape = (
          below_nonzero (ltb→lt 0 z all.0) l,
          same_eq (eqb→eq (times p x (times p z z)) j.X sides.0),
          same_eq (eqb→eq (times p y (times p z (times p z z))) j.Y sides.1),
        );
      }

  pub known : (j : Triple) (Q R : Point) → Below p Q → Stands p j Q → T (meets p R j) → Q ≡ R
  known j Q R b s t = one_point j Q R b (meets_below j R t) s (meets_stands j R s.below t)

  -- the multiple by r of a point of the curve, computed
  pub multiple_known : 2 < p → (a b : ℕ) → Same p (plus p a 3) 0 → NonZero p (discriminant p a b) → (x y : ℕ) → OnCurve p a b (at x y) → (bits r : ℕ)
      → r < 2 ^ bits → (R : Point) → T (meets p R (binary p x y bits r)) → total p a r (at x y) ≡ R
  multiple_known odd a b minus_three smooth x y on bits r l R t =
      known (binary p x y bits r) (total p a r (at x y)) R
      (below_of p a b (total p a r (at x y)) (total_on P odd a b smooth (at x y) on r))
      (binary_stands P odd a b minus_three smooth x y on bits r l) t
