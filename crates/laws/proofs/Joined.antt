-- Laws of a list made of two parts: an element, or a run of elements, lies in the one or in the other.
use mathlib.Core.Path.{◌≡◌, ap, ◌∙◌}
use mathlib.Core.List.{List, ◌++◌}
use Prim.Native.Nat.{ℕ, ◌+◌, ◌-◌, ◌≤◌}
use native.Mathlib.Omega.{arith}
use lib.ListN.{length, get_or, take, drop, length-drop}
use lib.Seq.{get_or-append-add, drop-append-add, drop-append-le, take-append-le}

module _ {A : Type 0} (xs ys : List A) where
  pub get_or_after : (i : ℕ) (d : A) → length xs ≤ i → get_or (xs ++ ys) i d ≡ get_or ys (i - length xs) d
  get_or_after i d h =
      let e : i ≡ length xs + (i - length xs) = omega arith in
      ap (λ (n : ℕ). get_or (xs ++ ys) n d) e ∙ get_or-append-add xs ys (i - length xs) d

  pub run_before : (n k : ℕ) → k + n ≤ length xs → take n (drop k (xs ++ ys)) ≡ take n (drop k xs)
  run_before n k h =
      let e : n ≤ length (drop k xs) = omega (arith, length-drop k xs) in
      rw (drop-append-le k xs ys (omega arith)) (take-append-le n (drop k xs) ys e)

  pub run_after : (n k : ℕ) → length xs ≤ k → take n (drop k (xs ++ ys)) ≡ take n (drop (k - length xs) ys)
  run_after n k h =
      let e : k ≡ length xs + (k - length xs) = omega arith in
      ap (λ (j : ℕ). take n (drop j (xs ++ ys))) e ∙ ap (take n) (drop-append-add xs ys (k - length xs))
