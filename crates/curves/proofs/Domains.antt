-- A curve's limbs, checked by computed tests, and the multiple by its numbers as the multiple on each curve that has them.
use mathlib.Core.Path.{◌≡◌, sym, ap, subst, ◌∙◌}
use mathlib.Core.List.{List}
use Prim.Native.Nat.{ℕ, ◌+◌, ◌-◌, ◌*◌, ◌%◌, ◌^◌, ◌<◌}
use native.Mathlib.Nat.{mod-lt}
use native.Mathlib.Omega.{arith}
use lib.Dec.{T, leb, ltb, eqb, leb→le, ltb→lt, eqb→eq}
use lib.ListN.{length, get_or}
use Rattle.laws.specs.Bytes.{big_endian, number}
use Rattle.limbs.specs.Limbs.{value, Below}
use Rattle.field.specs.Montgomery.{Field, Square}
use Rattle.curve_laws.specs.Modulo.{plus}
use Rattle.curve_laws.specs.Points.{Point, at, x_of, OnCurve, discriminant, total}
use Rattle.curve_laws.specs.Curves.{Curve, times_g, x_times_g}
use Rattle.curve_laws.specs.Valid.{Prime, Valid}
use Rattle.curve_laws.proofs.Modular.{Same}
use Rattle.curve_laws.proofs.Field.{NonZero}
use Rattle.curve_laws.proofs.Valid.{minus_three, discriminant_nonzero}
use Rattle.points.specs.Multiple.{Through, SideOf}
use Rattle.curves.specs.Parameters.{Usable}
use Rattle.curves.specs.declared.Domain.{Domain}
use Rattle.curves.specs.Base.{prime, order, base_x, base_y, Of, Multiple}

abbrev Less : List ℕ → List ℕ → Type 0
Less a m = T (eqb (length a) (length m)) × T (ltb (value a) (value m))

below : (a m : List ℕ) → Less a m → Below a m
below a m t = record { width = eqb→eq (length a) (length m) t.0; less = ltb→lt (value a) (value m) t.1 }

-- a modulus with its constants
abbrev pub FieldTest : List ℕ → ℕ → Type 0
FieldTest m inv = T (ltb 0 (length m)) × T (eqb ((get_or m 0 0 * inv + 1) % 4294967296) 0) × T (leb (length m) 8) × T (ltb 1 (value m))

abbrev pub SquareTest : List ℕ → List ℕ → Type 0
SquareTest m a = Less a m × T (eqb (value a) (4294967296 ^ length m * 4294967296 ^ length m % value m))

-- the other limbs
abbrev pub UsableTest : List ℕ → List ℕ → List ℕ → List ℕ → List ℕ → Type 0
UsableTest m e x y n = T (eqb (value e) (value m - 2)) × Less x m × Less y m × T (leb (length n) 8) × T (ltb 0 (value n))

abbrev pub Matches : {W S : ℕ} → Curve → Domain W S → Type 0
Matches c d =
    T (eqb (prime d) c.p)
    × (at (base_x d) (base_y d) ≡ c.G)
    × T (eqb (order d) c.n)
    × T (leb c.n (2 ^ d.bits))

pub field_by : (m : List ℕ) (inv : ℕ) → FieldTest m inv → Field m inv
field_by m inv t =
    record {
      modulus = record { some = ltb→lt 0 (length m) t.0; inverse = eqb→eq ((get_or m 0 0 * inv + 1) % 4294967296) 0 t.1 };
      narrow = leb→le (length m) 8 t.2;
      large = ltb→lt 1 (value m) t.3;
    }

pub square_by : (m a : List ℕ) → SquareTest m a → Square m a
square_by m a t =
    record { form = below a m t.0; is = eqb→eq (value a) (4294967296 ^ length m * 4294967296 ^ length m % value m) t.1 }

pub usable_by : (m e x y n : List ℕ) → UsableTest m e x y n → Usable m e x y n
usable_by m e x y n t =
    record {
      exponent = eqb→eq (value e) (value m - 2) t.0;
      side = below x m t.1;
      height = below y m t.2;
      span_narrow = leb→le (length n) 8 t.3;
      order_some = ltb→lt 0 (value n) t.4;
    }

pub matches : {W S : ℕ} (c : Curve) (d : Domain W S) → Matches c d → Of c d
matches c d t =
    record {
      p = eqb→eq (prime d) c.p t.0;
      G = t.1;
      n = eqb→eq (order d) c.n t.2;
      bits = leb→le c.n (2 ^ d.bits) t.3;
    }

module _ (c : Curve) (valid : Valid c) (three : c.a + 3 ≡ c.p) {W S : ℕ} (d : Domain W S) (of : Of c d) where
  -- the curve goes through the base point of the domain
  through : Through (prime d) (base_x d) (base_y d) c.a c.b
  through =
      record {
        prime = subst (λ (q : ℕ). Prime q) (sym of.p) valid.prime;
        odd = omega (arith, of.p, valid.odd);
        minus_three = subst (λ (q : ℕ). Same q (plus q c.a 3) 0) (sym of.p) (minus_three c.a three);
        smooth =
            subst (λ (q : ℕ). NonZero q (discriminant q c.a c.b)) (sym of.p)
            (discriminant_nonzero c.a c.b valid.prime valid.smooth);
        on =
            subst (λ (Q : Point). OnCurve (prime d) c.a c.b Q) (sym of.G)
            (subst (λ (q : ℕ). OnCurve q c.a c.b c.G) (sym of.p) valid.base);
      }

  -- the x coordinate on the curve, for a number below its order
  side_of : (r found : ℕ) → r < c.n → SideOf (prime d) (base_x d) (base_y d) d.bits r found → found ≡ x_times_g c r
  unfolding x_times_g times_g
  side_of r found l s =
      s.side c.a c.b through (omega (arith, of.bits))
      ∙ ap (λ (q : ℕ). x_of (total q c.a r (at (base_x d) (base_y d)))) of.p
      ∙ ap (λ (Q : Point). x_of (total c.p c.a r Q)) of.G

  pub on_curve : 0 < order d → (bytes r x : List ℕ) (size found : ℕ) → r ≡ big_endian 32 (number bytes % order d) → x ≡ big_endian size found
      → SideOf (prime d) (base_x d) (base_y d) d.bits (number bytes % order d) found → Multiple c bytes size r x
  on_curve some bytes r x size found e f s =
      let below : number bytes % c.n < c.n = mod-lt (number bytes) (omega (arith, of.n)) in
      record {
        scalar = e ∙ ap (λ (k : ℕ). big_endian 32 (number bytes % k)) of.n;
        side = f ∙ ap (big_endian size) (side_of (number bytes % c.n) found below (rw of.n at s));
      }
