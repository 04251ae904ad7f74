-- Forms as numbers: what sums, differences and products of their limbs hold, and the forms of 0 and 1.
use mathlib.Core.Path.{◌≡◌, refl, sym, ap, ◌∙◌}
use mathlib.Core.Bool.{Bool, true, false}
use mathlib.Core.List.{List, [], ◌∷◌}
use Prim.Native.Nat.{ℕ, zero, suc, ◌+◌, ◌-◌, ◌*◌, ◌%◌, ◌^◌, ◌<◌}
use native.Mathlib.Nat.{zero-mul, zero-mod}
use native.Mathlib.Omega.{arith}
use native.Mathlib.Decide.{dec_lt}
use borrow.Author.Tests.{eq-eqb, ne_eqb}
use lib.Dec.{eqb}
use lib.Pointwise.{pointwise, bytes_decides}
use lib.ListN.{length, replicate, set, length-replicate}
use Rattle.limbs.specs.Limbs.{over, value, Below}
use Rattle.curve_laws.specs.Modulo.{plus, times, minus}
use Rattle.field.specs.Montgomery.{shrink, plain, Field, Square}
use Rattle.field.specs.declared.Prime.{Prime}
use Rattle.field.specs.Forms.{element, Form, Holds}
use Rattle.field.proofs.Units.{unit, holds_product, holds_sum, holds_difference, holds_zero, holds_into, holds_out}

-- the limbs of 0, and of 1
pub value_zeros : (k : ℕ) → value (replicate k 0) ≡ 0
unfolding over value
value_zeros zero = refl
value_zeros (suc k) = let ih : over (replicate k 0) 0 ≡ 0 = value_zeros k in omega arith

only_zeros : (a : List ℕ) → value a ≡ 0 → a ≡ replicate (length a) 0
unfolding over value
only_zeros [] e = refl
only_zeros (x ∷ xs) e =
    let first : x ≡ 0 = omega arith in
    let rest : xs ≡ replicate (length xs) 0 = only_zeros xs (omega arith) in
    λ i. first i ∷ rest i

not_true : (b : Bool) → (b ≡ true → ⊥) → b ≡ false
not_true true h = absurd (h refl)
not_true false h = refl

pub value_unit : (k : ℕ) → 0 < k → value (set (replicate k 0) 0 1) ≡ 1
unfolding over value
value_unit zero h = absurd (omega arith)
value_unit (suc k) h = let rest : over (replicate k 0) 0 ≡ 0 = value_zeros k in omega arith

pub holds_as : {N : ℕ} {f : Prime N} {a : List ℕ} {v w : ℕ} → Holds f a v → v ≡ w → Holds f a w
holds_as h e = record { form = h.form; holds = h.holds ∙ e }

module _ {N : ℕ} (f : Prime N) where
  pub below_zeros : (k : ℕ) → k ≡ length f.m → Below (replicate k 0) f.m
  below_zeros k e = record { width = length-replicate k 0 ∙ e; less = rw (value_zeros k) (omega (arith, f.field.large)) }

  -- 0 holds 0, and only 0 does
  pub zero_holds : (a : List ℕ) → value a ≡ 0 → element f a ≡ 0
  unfolding plain
  zero_holds a e =
      ap (λ (k : ℕ). k * shrink f.m f.inv ^ length f.m % value f.m) e
      ∙ ap (λ (k : ℕ). k % value f.m) (zero-mul (shrink f.m f.inv ^ length f.m))
      ∙ zero-mod (value f.m)

  pub holds_none : (k : ℕ) → k ≡ length f.m → Holds f (replicate k 0) 0
  holds_none k e = record { form = below_zeros k e; holds = zero_holds (replicate k 0) (value_zeros k) }

  pub only_zero : (a : List ℕ) → Form f a → element f a ≡ 0 → value a ≡ 0
  unfolding plain
  only_zero a of-a e =
      holds_zero (value f.m) (4294967296 ^ length f.m) (shrink f.m f.inv ^ length f.m) (omega (arith, f.field.large)) (unit f.m f.inv f.field.modulus)
      (value a) of-a.less e

  -- the limbs are those of 0 where the form holds 0
  pub zero_test : (k : ℕ) (a : List ℕ) → k ≡ length f.m → Form f a → pointwise eqb a (replicate k 0) ≡ eqb (element f a) 0
  zero_test k a e of-a = go (dec_lt (value a) 1)
    where
      go : Dec (value a < 1) → pointwise eqb a (replicate k 0) ≡ eqb (element f a) 0
      go (yes h) =
          let none : value a ≡ 0 = omega arith in
          let zeros : a ≡ replicate k 0 = only_zeros a none ∙ ap (λ (n : ℕ). replicate n 0) (of-a.width ∙ sym e) in
          (bytes_decides a (replicate k 0)).1 zeros ∙ sym (eq-eqb _ 0 (zero_holds a none))
      go (no n) =
          let some : pointwise eqb a (replicate k 0) ≡ true → ⊥ =
          λ t. let none : value a ≡ 0 = ap value ((bytes_decides a (replicate k 0)).0 t) ∙ value_zeros k in omega arith in
          not_true (pointwise eqb a (replicate k 0)) some ∙ sym (ne_eqb _ 0 (λ q. let none = only_zero a of-a q in omega arith))

  -- into a form, and out of it
  pub into_form : (a s r : List ℕ) → Form f a → Square f.m s → Holds f r (times (value f.m) (element f a) (element f s)) → Holds f r (value a)
  unfolding plain
  into_form a s r of-a of-s h =
      holds_as h
      (holds_into (value f.m) (4294967296 ^ length f.m) (shrink f.m f.inv ^ length f.m) (omega (arith, f.field.large)) (unit f.m f.inv f.field.modulus)
      (value a) (value s) (times (value f.m) (element f a) (element f s)) of-a.less of-s.is refl)

  pub out_of_form : (a u r : List ℕ) → value u ≡ 1 → Holds f r (times (value f.m) (element f a) (element f u)) → value r ≡ element f a
  unfolding plain
  out_of_form a u r one h =
      holds_out (value f.m) (4294967296 ^ length f.m) (shrink f.m f.inv ^ length f.m) (omega (arith, f.field.large)) (unit f.m f.inv f.field.modulus)
      (value a) (value r) h.form.less
      (h.holds ∙ ap (λ (k : ℕ). times (value f.m) (element f a) (k * shrink f.m f.inv ^ length f.m % value f.m)) one)

  module _ (t a b : List ℕ) (below : Below t f.m) (of-a : Form f a) (of-b : Form f b) where
    pub product : value t * 4294967296 ^ length f.m % value f.m ≡ value a * value b % value f.m → Holds f t (times (value f.m) (element f a) (element f b))
    unfolding plain
    product e =
        record {
          form = below;
          holds =
              holds_product (value f.m) (4294967296 ^ length f.m) (shrink f.m f.inv ^ length f.m) (omega (arith, of-a.less)) (unit f.m f.inv f.field.modulus)
              (value a) (value b) (value t) e;
        }

    pub sum : value t ≡ (value a + value b) % value f.m → Holds f t (plus (value f.m) (element f a) (element f b))
    unfolding plain
    sum e =
        record {
          form = below;
          holds =
              holds_sum (value f.m) (4294967296 ^ length f.m) (shrink f.m f.inv ^ length f.m) (omega (arith, of-a.less)) (unit f.m f.inv f.field.modulus)
              (value a) (value b) (value t) e;
        }

    pub difference : value t ≡ (value a + (value f.m - value b)) % value f.m → Holds f t (minus (value f.m) (element f a) (element f b))
    unfolding plain
    difference e =
        record {
          form = below;
          holds =
              holds_difference (value f.m) (4294967296 ^ length f.m) (shrink f.m f.inv ^ length f.m) (omega (arith, of-a.less)) (unit f.m f.inv f.field.modulus)
              (value a) (value b) (value t) of-b.less e;
        }

-- only the limbs of 0 hold 0, of a modulus with its constant
pub zero_limbs : {m a : List ℕ} {inv : ℕ} → Field m inv → Below a m → eqb (plain m inv a) 0 ≡ pointwise eqb a (replicate (length m) 0)
zero_limbs {m} {a} {inv} h b = sym (zero_test {N = length m} (record { m = m; inv = inv; field = h }) (length m) a refl b)
