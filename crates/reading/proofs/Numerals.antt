-- Laws of numerals: how a loop from the front decides a text of digits, and what a sign before it makes of it.
use Prim.Native.Nat.{ℕ, zero, suc, ◌+◌, ◌-◌, ◌*◌, ◌^◌, ◌≤◌, ◌<◌}
use mathlib.Core.Path.{◌≡◌, refl, sym, ap, subst, ◌∙◌}
use mathlib.Core.Bool.{Bool, true, false, cond, not, ◌&&◌, ◌||◌}
use mathlib.Core.List.{List, [], ◌∷◌}
use Rattle.std.specs.Prelude.{Option, None, Some, Result, Ok, Err}
use Rattle.std.specs.Result.{OkIff, result_ok}
use native.Mathlib.Nat.{zero-add}
use native.Mathlib.Numerals.{add-one}
use native.Mathlib.Omega.{arith}
use native.Mathlib.Decide.{dec_lt}
use lib.Dec.{ltb, eqb}
use lib.IntN.{ℤ, pos, negsuc, ◌-ℤ◌}
use lib.ListN.{length, take, drop, get_or, drop_of_length-le}
use lib.Seq.{drop-cons}
use lib.Pointwise.{pointwise}
use mir.Syntax.{w32}
use mir.Val.{to_z, of_z, SFits}
use mir.Facts.{to_z_pos, to_z-of_z}
use borrow.Author.Tests.{lt-ltb, le-ltb, le-leb, lt-leb, ltb-false}
use Rattle.laws.proofs.Flags.{and_fails_right, both}
use Rattle.reading.specs.Reading.{all_digits, value_from, is_digit, is_numeral, unsigned, signed, negative, positive, minus}
use Rattle.reading.specs.Values.{in_digits}

pub and_true : (a : Bool) → a && true ≡ a
and_true true = refl
and_true false = refl

-- one less than nothing, k times
pub below_zero : (k : ℕ) → negsuc 0 -ℤ pos k ≡ negsuc k
below_zero zero = refl
below_zero (suc k) = rw zero-add

-- a larger number stays larger
pub value_grows : (v : ℕ) (cs : List ℕ) → v ≤ value_from v cs
unfolding value_from
value_grows v [] = omega arith
value_grows v (c ∷ cs) = let rest : v * 10 + (c - 48) ≤ value_from (v * 10 + (c - 48)) cs = value_grows (v * 10 + (c - 48)) cs in omega arith

-- A loop from the front: a digit leaves the rest to decide, and adds to the value
module _ (cs : List ℕ) (i : ℕ) (h : i < length cs) where
  pub digits_next : is_digit (get_or cs i 0) ≡ true → all_digits (drop i cs) ≡ all_digits (drop (i + 1) cs)
  unfolding all_digits
  digits_next d = rw (add-one i, drop-cons cs i 0 h, d)

  pub digits_wrong : is_digit (get_or cs i 0) ≡ false → all_digits (drop i cs) ≡ false
  unfolding all_digits
  digits_wrong d = rw (drop-cons cs i 0 h, d)

  pub value_next : (v : ℕ) → value_from v (drop i cs) ≡ value_from (v * 10 + (get_or cs i 0 - 48)) (drop (i + 1) cs)
  unfolding value_from
  value_next v = rw (add-one i, drop-cons cs i 0 h)

pub digits_end : (cs : List ℕ) (i : ℕ) → length cs ≤ i → all_digits (drop i cs) ≡ true
unfolding all_digits
digits_end cs i h = rw (drop_of_length-le cs h)

pub value_end : (cs : List ℕ) (i v : ℕ) → length cs ≤ i → value_from v (drop i cs) ≡ v
unfolding value_from
value_end cs i v h = rw (drop_of_length-le cs h)

pub no_digits : (cs : List ℕ) → all_digits cs ≡ false → None ≡ in_digits cs
unfolding in_digits
no_digits cs h = rw h

pub too_large : (cs : List ℕ) → 2 ^ 32 ≤ value_from 0 cs → None ≡ in_digits cs
unfolding in_digits
too_large cs h = rw (le-ltb (value_from 0 cs) (2 ^ 32) h, and_fails_right (all_digits cs) refl)

pub in_digits_lem : (cs : List ℕ) (v : ℕ) → all_digits cs ≡ true → value_from 0 cs ≡ v → v < 2 ^ 32 → Some v ≡ in_digits cs
unfolding in_digits
in_digits_lem cs v h e small = rw (h, e, lt-ltb v (2 ^ 32) small)

-- the count of digits, and no zero before others
abbrev pub shaped : List ℕ → Bool
shaped cs = eqb (length cs) 1 || (ltb 1 (length cs) && not (eqb (get_or cs 0 0) 48))

pub no_shape : (cs : List ℕ) → shaped cs ≡ false → None ≡ unsigned cs
unfolding unsigned is_numeral
no_shape cs h = rw (h, and_fails_right (all_digits cs) refl)

pub in_shape : (cs : List ℕ) → shaped cs ≡ true → in_digits cs ≡ unsigned cs
unfolding unsigned is_numeral in_digits
in_shape cs h = rw h (rw (and_true (all_digits cs)))

abbrev pub and_then : {A : Type 0} → Option ℕ → (ℕ → Option A) → Option A
and_then None f = None
and_then (Some n) f = f n

-- a number with a sign is read as one without, and then within its bounds
judged : {A : Type 0} (f : ℕ → Option A) (cs : List ℕ) → ((n : ℕ) → 2 ^ 32 ≤ n → f n ≡ None)
    → cond (is_numeral cs) (f (value_from 0 cs)) None ≡ and_then (unsigned cs) f
unfolding unsigned
judged f cs large = go (is_numeral cs) (ltb (value_from 0 cs) (2 ^ 32)) refl
  where
    go : (numeral small : Bool) → ltb (value_from 0 cs) (2 ^ 32) ≡ small
        → cond numeral (f (value_from 0 cs)) None ≡ and_then (cond (numeral && small) (Some (value_from 0 cs)) None) f
    go false small e = refl
    go true true e = refl
    go true false e = large (value_from 0 cs) (ltb-false (value_from 0 cs) (2 ^ 32) e)

-- a number below 2^31 stands for itself
pub above_is : {E : Type 0} (n : ℕ) (r : Result ℤ E) → OkIff r (SFits w32 (pos n)) (pos n) → result_ok r ≡ positive n
unfolding positive
above_is n (Ok x) h = ap Some h.1 ∙ sym (ap (λ (b : Bool). cond b (Some (pos n)) None) (lt-ltb n (2 ^ 31) (omega (arith, h.0.sfits))))
above_is n (Err e) h = go (dec_lt n (2 ^ 31))
  where
    go : Dec (n < 2 ^ 31) → None ≡ cond (ltb n (2 ^ 31)) (Some (pos n)) None
    go (yes p) = absurd (h (record { sfits = omega arith }))
    go (no q) = rw (le-ltb n (2 ^ 31) (omega arith)) refl

-- a number from 1 to 2^31, taken from zero
module _ (n : ℕ) (some-n : 0 < n) (h : n ≤ 2 ^ 31) where
  taken_from_zero : negsuc 0 -ℤ to_z w32 (n - 1) ≡ negsuc (n - 1)
  taken_from_zero = ap (λ (z : ℤ). negsuc 0 -ℤ z) (to_z_pos w32 {n = n - 1} (omega arith)) ∙ below_zero (n - 1)

  pub negative_fits : SFits w32 (negsuc 0 -ℤ to_z w32 (n - 1))
  negative_fits = subst (λ (z : ℤ). SFits w32 z) (sym taken_from_zero) (record { sfits = omega arith })

  pub negative_is : Some (to_z w32 (of_z w32 (negsuc 0 -ℤ to_z w32 (n - 1)))) ≡ negative n
  unfolding negative
  negative_is =
      ap Some (to_z-of_z negative_fits ∙ taken_from_zero)
      ∙ sym (ap (λ (b : Bool). cond b (Some (negsuc (n - 1))) None) (both (lt-ltb 0 n some-n) (le-leb n (2 ^ 31) h)))

pub not_negative : (n : ℕ) → 2 ^ 31 < n → negative n ≡ None
unfolding negative
not_negative n h = rw (lt-leb n (2 ^ 31) h, and_fails_right (ltb 0 n) refl)

pub not_positive : (n : ℕ) → 2 ^ 31 ≤ n → positive n ≡ None
unfolding positive
not_positive n h = rw (le-ltb n (2 ^ 31) h)

nothing_read : unsigned [] ≡ None
unfolding unsigned is_numeral all_digits
nothing_read = refl

-- with a minus before them the digits are taken from zero, without one they stand for themselves
pub signed_by : (cs : List ℕ) → signed cs ≡ cond (pointwise eqb (take 1 cs) (minus ∷ [])) (and_then (unsigned (drop 1 cs)) negative) (and_then (unsigned cs) positive)
unfolding signed
signed_by [] = rw nothing_read
signed_by (c ∷ cs) =
    rw (judged negative cs (λ n k. not_negative n (omega arith)), judged positive (c ∷ cs) (λ n k. not_positive n (omega arith)), and_true (eqb c minus)) refl
