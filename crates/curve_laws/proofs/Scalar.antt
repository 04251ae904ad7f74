-- Multiples of the base point of a valid curve with a = p - 3: the binary method in Jacobian coordinates gives the x coordinate of r times G, a computed
-- multiple is the multiple, and r times G is not infinity for r from 1 to n - 1.
use mathlib.Core.Path.{◌≡◌, refl, sym, ap, subst, ◌∙◌}
use mathlib.Core.Logic.{◌≢◌}
use Prim.Native.Nat.{ℕ, zero, suc, ◌+◌, ◌*◌, ◌/◌, ◌%◌, ◌^◌, ◌<◌}
use native.Mathlib.Omega.{arith}
use native.Mathlib.Nat.{mod-eq_of_lt, div-add-mod', mul-zero, mul-suc}
use lib.Dec.{T}
use Rattle.curve_laws.specs.Points.{Point, infinity, at, x_of, y_of, OnCurve, discriminant, add, total}
use Rattle.curve_laws.specs.Curves.{Curve, times_g, x_times_g}
use Rattle.curve_laws.specs.Valid.{Prime, Valid}
use Rattle.curve_laws.proofs.Prime.{inverts}
use Rattle.curve_laws.proofs.Field.{NonZero}
use Rattle.curve_laws.proofs.Sums.{add_left}
use Rattle.curve_laws.proofs.Multiples.{total_zero, total_suc, total_sum}
use Rattle.curve_laws.proofs.Jacobian.{binary, affine_x}
use Rattle.curve_laws.proofs.Binary.{binary_x}
use Rattle.curve_laws.proofs.Known.{meets, multiple_known}
use Rattle.curve_laws.proofs.Valid.{minus_three, discriminant_nonzero}

by_coordinates : (Q : Point) → Q ≢ infinity → Q ≡ at (x_of Q) (y_of Q)
unfolding x_of y_of
by_coordinates infinity n = absurd (n refl)
by_coordinates (at x y) n = refl

module _ (c : Curve) (K : Valid c) where
  base_at : c.G ≡ at (x_of c.G) (y_of c.G)
  base_at = by_coordinates c.G K.base_finite

  base_on : OnCurve c.p c.a c.b (at (x_of c.G) (y_of c.G))
  base_on = subst (λ (Q : Point). OnCurve c.p c.a c.b Q) base_at K.base

  smooth : NonZero c.p (discriminant c.p c.a c.b)
  smooth = discriminant_nonzero c.a c.b K.prime K.smooth

  pub x_by_binary : c.a + 3 ≡ c.p → (bits r : ℕ) → r < 2 ^ bits
      → affine_x c.p (binary c.p (x_of c.G) (y_of c.G) bits r) ≡ x_times_g c r
  unfolding x_times_g times_g
  x_by_binary three bits r l =
      binary_x K.prime K.odd c.a c.b (minus_three c.a three) smooth (x_of c.G) (y_of c.G) base_on bits r l
      ∙ ap (λ (Q : Point). x_of (total c.p c.a r Q)) (sym base_at)

  pub computed : c.a + 3 ≡ c.p → (bits r : ℕ) → r < 2 ^ bits → (R : Point)
      → T (meets c.p R (binary c.p (x_of c.G) (y_of c.G) bits r)) → times_g c r ≡ R
  unfolding times_g
  computed three bits r l R t =
      ap (λ (Q : Point). total c.p c.a r Q) base_at
      ∙ multiple_known K.prime K.odd c.a c.b (minus_three c.a three) smooth (x_of c.G) (y_of c.G) base_on bits r l R t

  -- ---- no multiple before the n-th is infinity: with r v = 1 modulo n, G would be

  sums : (r s : ℕ) → times_g c (r + s) ≡ add c.p c.a (times_g c r) (times_g c s)
  unfolding times_g
  sums = total_sum K.prime K.odd c.a c.b smooth c.G K.base

  none : times_g c 0 ≡ infinity
  unfolding times_g
  none = total_zero c.p c.a c.G

  once : times_g c 1 ≡ c.G
  unfolding times_g
  once = total_suc c.p c.a 0 c.G ∙ rw (total_zero, add_left)

  repeated : (r : ℕ) → times_g c r ≡ infinity → (v : ℕ) → times_g c (r * v) ≡ infinity
  repeated r e zero = ap (λ (k : ℕ). times_g c k) (mul-zero r) ∙ none
  repeated r e (suc v) =
      ap (λ (k : ℕ). times_g c k) (mul-suc r v) ∙ sums (r * v) r ∙ rw (repeated r e v, e) (add_left c.p c.a infinity)

  pub never_infinity : (r : ℕ) → 0 < r → r < c.n → times_g c r ≢ infinity
  never_infinity r above below e =
      let n : ℕ = c.n in
      let N : Prime n = K.order_prime in
      let m : 1 < n = N.above_one in
      let I = inverts N r (λ z. let r-zero : r ≡ 0 = sym (mod-eq_of_lt below) ∙ z in omega arith) in
      let v : ℕ = I.by in
      let w : ℕ = r * v / n in
      let one : r * v % n ≡ 1 = I.gives_one.rest ∙ mod-eq_of_lt m in
      let split : w * n + r * v % n ≡ r * v = div-add-mod' (r * v) n in
      let whole : r * v ≡ n * w + 1 = omega arith in
      K.base_finite
      (sym once
      ∙ sym (add_left c.p c.a (times_g c 1))
      ∙ ap (λ (Q : Point). add c.p c.a Q (times_g c 1)) (sym (repeated n K.order w))
      ∙ sym (sums (n * w) 1)
      ∙ ap (λ (k : ℕ). times_g c k) (sym whole)
      ∙ repeated r e v)
