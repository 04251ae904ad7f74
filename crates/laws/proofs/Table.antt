-- Equations of the numbers below a bound, from one test that antt computes at every one of them.
use mathlib.Core.Path.{◌≡◌, refl, ap₂, subst}
use mathlib.Core.Bool.{Bool, true, false, ◌&&◌}
use mathlib.Core.List.{List, [], ◌∷◌}
use Prim.Native.Nat.{ℕ, zero, suc, ◌<◌}
use native.Mathlib.Omega.{arith}
use native.Mathlib.Decide.{dec_lt}
use lib.Dec.{T, eqb, eqb→eq}

both : (a b : Bool) → T (a && b) → T a × T b
both true b t = (tt, t)
both false b t = absurd t

-- two lists of numbers are the same
abbrev pub same : List ℕ → List ℕ → Bool
same [] [] = true
same [] (y ∷ ys) = false
same (x ∷ xs) [] = false
same (x ∷ xs) (y ∷ ys) = eqb x y && same xs ys

same_eq : (xs ys : List ℕ) → T (same xs ys) → xs ≡ ys
same_eq [] [] t = refl
same_eq [] (y ∷ ys) t = absurd t
same_eq (x ∷ xs) [] t = absurd t
same_eq (x ∷ xs) (y ∷ ys) t =
    ap₂ (λ (z : ℕ) (zs : List ℕ). z ∷ zs) (eqb→eq x y (both (eqb x y) (same xs ys) t).0) (same_eq xs ys (both (eqb x y) (same xs ys) t).1)

-- the sides of the equations at each number below n are the same
abbrev pub same_below : (ℕ → List ℕ) → (ℕ → List ℕ) → ℕ → Bool
same_below left right zero = true
same_below left right (suc n) = same (left n) (right n) && same_below left right n

pub below : (left right : ℕ → List ℕ) (n : ℕ) → T (same_below left right n) → (k : ℕ) → k < n → left k ≡ right k
below left right zero t k h = absurd (omega arith)
below left right (suc n) t k h = go (dec_lt k n) parts.0 (below left right n parts.1 k)
  where
    parts : T (same (left n) (right n)) × T (same_below left right n)
    parts = both (same (left n) (right n)) (same_below left right n) t

    go : Dec (k < n) → T (same (left n) (right n)) → (k < n → left k ≡ right k) → left k ≡ right k
    go (yes p) last rest = rest p
    go (no q) last rest = let e : n ≡ k = omega arith in subst (λ (m : ℕ). left m ≡ right m) e (same_eq (left n) (right n) last)
