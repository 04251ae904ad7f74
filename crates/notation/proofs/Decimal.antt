-- Decimal text, written from its last digit to its first: what is still to be written and what stands already.
use Prim.Native.Nat.{ℕ, zero, suc, ◌+◌, ◌-◌, ◌/◌, ◌%◌, ◌≤◌, ◌<◌}
use mathlib.Core.Path.{◌≡◌, refl, ◌∙◌}
use mathlib.Core.Bool.{Bool, true, false, cond}
use mathlib.Core.Logic.{◌⊎◌, inl, inr}
use mathlib.Core.List.{List, [], ◌∷◌, ◌++◌, append_assoc}
use native.Mathlib.Nat.{mod-eq_of_lt}
use native.Mathlib.Numerals.{add-one}
use native.Mathlib.Omega.{arith}
use lib.Dec.{ltb}
use lib.ListN.{length, drop, set, length-append}
use lib.Seq.{drop-cons, get_or-set_same, drop-set-lt, lt-length-set}
use borrow.Author.Tests.{lt-ltb, le-ltb, ltb-true}
use Rattle.notation.specs.Text.{decimal, decimal_in}

-- what is still to be written of a number, and the digits from a place on
unfoldable pub digits_from : ℕ → ℕ → List ℕ → List ℕ
digits_from f r ds = decimal_in (f + 1) r ++ drop (f + 1) ds

drop_set : (ds : List ℕ) (f x : ℕ) → f < length ds → drop f (set ds f x) ≡ x ∷ drop (f + 1) ds
drop_set ds f x h =
    drop-cons (set ds f x) f 0 (lt-length-set ds f x h)
    ∙ rw (get_or-set_same ds f x 0 h, drop-set-lt (suc f) ds f x (omega arith), add-one)

pub digits_more : (f r : ℕ) (ds : List ℕ) → 0 < f → f < length ds → 10 ≤ r
    → digits_from f r ds ≡ digits_from (f - 1) (r / 10) (set ds f (48 + r % 10))
unfolding digits_from decimal_in
digits_more f r ds pos h big =
    let e : f - 1 + 1 ≡ f = omega arith in
    rw (e, drop_set ds f (48 + r % 10) h, add-one, le-ltb r 10 big) (rw append_assoc)

pub digits_last : (f r : ℕ) (ds : List ℕ) → f < length ds → (r < 10) ⊎ (f ≡ 0)
    → digits_from f r ds ≡ drop f (set ds f (48 + r % 10))
unfolding digits_from decimal_in
digits_last f r ds h (inl small) = rw (drop_set ds f (48 + r % 10) h, add-one, lt-ltb r 10 small, mod-eq_of_lt small)
digits_last f r ds h (inr e) = rw (e, drop_set ds 0 (48 + r % 10) (omega arith)) (go (ltb r 10) refl)
  where
    go : (t : Bool) → ltb r 10 ≡ t → cond t ((48 + r) ∷ []) ((48 + r % 10) ∷ []) ++ drop 1 ds ≡ (48 + r % 10) ∷ drop 1 ds
    go true t = rw (mod-eq_of_lt (ltb-true r 10 t))
    go false t = refl

within : (k m : ℕ) → length (decimal_in k m) ≤ k
unfolding decimal_in
within zero m = omega arith
within (suc k) m = go (ltb m 10) (within k (m / 10))
  where
    go : (t : Bool) → length (decimal_in k (m / 10)) ≤ k
        → length (cond t ((48 + m) ∷ []) (decimal_in k (m / 10) ++ ((48 + m % 10) ∷ []))) ≤ suc k
    go true h = omega arith
    go false h = rw length-append (omega arith)

-- at most ten digits
pub length_decimal : (n : ℕ) → length (decimal n) ≤ 10
unfolding decimal
length_decimal n = within 10 n
