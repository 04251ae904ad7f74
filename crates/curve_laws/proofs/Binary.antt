-- The binary method in Jacobian coordinates computes the x coordinate of r times G, for every r of so many bits.
use mathlib.Core.Path.{◌≡◌, refl}
use mathlib.Core.Bool.{Bool, true, false, cond}
use mathlib.Core.List.{List, [], ◌∷◌}
use Prim.Native.Nat.{ℕ, zero, suc, ◌/◌, ◌%◌, ◌^◌, ◌<◌}
use native.Mathlib.Omega.{arith}
use lib.Dec.{eqb}
use Rattle.curve_laws.specs.Modulo.{plus, times, inverse, over}
use Rattle.curve_laws.specs.Points.{Point, infinity, at, x_of, OnCurve, discriminant, double, add, total}
use Rattle.curve_laws.specs.Valid.{Prime}
use Rattle.curve_laws.proofs.Modular.{Same, same_eq, equal_below}
use Rattle.curve_laws.proofs.Modulo.{times_below, times_zero}
use Rattle.curve_laws.proofs.Field.{NonZero, positive, inverse_zero, over_times, times_nonzero, below_zero, follows_divided}
use Rattle.curve_laws.proofs.Ring.{var, ◌⊗◌, ◌⊟◌, gap}
use Rattle.curve_laws.proofs.Sums.{add_on}
use Rattle.curve_laws.proofs.Multiples.{add_self, total_zero, total_on, total_half}
use Rattle.curve_laws.proofs.Jacobian.{Triple, Below, Stands, doubled, added, turn, binary, affine_x}
use Rattle.curve_laws.proofs.Doubling.{doubling}
use Rattle.curve_laws.proofs.Adding.{adding}

pub below_of : (p a b : ℕ) (Q : Point) → OnCurve p a b Q → Below p Q
below_of p a b infinity on = tt
below_of p a b (at x y) on = (on.0, on.1)

module _ {p : ℕ} (P : Prime p) (odd : 2 < p) where
  h : 0 < p
  h = positive P

  over_below : (u v : ℕ) → over p u v < p
  unfolding over
  over_below u v = times_below h u (inverse p v)

  over_none : (u v : ℕ) → Same p v 0 → Same p (over p u v) 0
  unfolding over
  over_none u v z = times_zero u (inverse_zero P odd z)

  -- X / Z² is the x coordinate, and 0 for infinity
  pub affine : (j : Triple) (Q : Point) → Below p Q → Stands p j Q → affine_x p j ≡ x_of Q
  unfolding affine_x x_of
  affine j infinity below s =
      below_zero (over_below j.X (times p j.Z j.Z))
      (over_none j.X (times p j.Z j.Z) (times_zero j.Z (same_eq s.shape)))
  affine j (at x y) below s =
      let square : ℕ = times p j.Z j.Z in
      let some : NonZero p square = times_nonzero P s.shape.0 s.shape.0 in
      let ρ : List ℕ = over p j.X square ∷ square ∷ x ∷ j.X ∷ [] in
      equal_below
      (follows_divided P
      (gap h ρ (var 0 ⊗ var 1) (var 3) (over_times P j.X square some) ⊟ gap h ρ (var 2 ⊗ var 1) (var 3) s.shape.1) (var 1)
      (var 0) (var 2) some tt)
      (over_below j.X square) below.0

  module _ (a b : ℕ) (minus_three : Same p (plus p a 3) 0) (smooth : NonZero p (discriminant p a b)) (x y : ℕ) (on : OnCurve p a b (at x y)) where
    -- one turn
    turned : (bit : ℕ) (j : Triple) (Q : Point) → OnCurve p a b Q → Stands p j Q
        → Stands p (turn p x y bit j) (cond (eqb bit 0) (double p a Q) (add p a (double p a Q) (at x y)))
    unfolding turn
    turned bit j Q on' s = go (eqb bit 0)
      where
        twice : Stands p (doubled p j) (double p a Q)
        twice = doubling P odd a minus_three j Q (below_of p a b Q on') s

        twice_below : Below p (double p a Q)
        twice_below = below_of p a b (double p a Q) (rw add_self at (add_on P odd a b Q Q on' on'))

        go : (t : Bool)
            → Stands p (cond t (doubled p j) (added p x y (doubled p j))) (cond t (double p a Q) (add p a (double p a Q) (at x y)))
        go true = twice
        go false = adding P odd a minus_three x y on.0 on.1 (doubled p j) (double p a Q) twice_below twice

    pub binary_stands : (bits r : ℕ) → r < 2 ^ bits → Stands p (binary p x y bits r) (total p a r (at x y))
    unfolding binary
    binary_stands zero r l = let e : r ≡ 0 = omega arith in rw (e, total_zero) (record { below = h; shape = refl })
    binary_stands (suc bits) r l =
        rw (total_half P odd a b smooth (at x y) on r)
        (turned (r % 2) (binary p x y bits (r / 2)) (total p a (r / 2) (at x y)) (total_on P odd a b smooth (at x y) on (r / 2))
        (binary_stands bits (r / 2) (omega arith)))

    -- the x coordinate of a triple that stands for the multiple
    pub stands_x : (r : ℕ) (j : Triple) → Stands p j (total p a r (at x y)) → affine_x p j ≡ x_of (total p a r (at x y))
    stands_x r j s =
        affine j (total p a r (at x y)) (below_of p a b (total p a r (at x y)) (total_on P odd a b smooth (at x y) on r)) s

    pub binary_x : (bits r : ℕ) → r < 2 ^ bits → affine_x p (binary p x y bits r) ≡ x_of (total p a r (at x y))
    binary_x bits r l = stands_x r (binary p x y bits r) (binary_stands bits r l)
