-- A list and its first n elements, written out one by one: at a numeral the tabulation computes to the literal.
use mathlib.Core.Path.{◌≡◌, refl}
use mathlib.Core.List.{List}
use Prim.Native.Nat.{ℕ, ◌≤◌}
use lib.ListN.{length, get_or, take}
use lib.Seq.{length-take-le, get_or-take}
use Rattle.laws.specs.Bytes.{tabulate}
use Rattle.laws.proofs.Tabulate.{is_tabulate}

module _ {A : Type 0} (d : A) (n : ℕ) (l : List A) where
  pub first_elements : n ≤ length l → take n l ≡ tabulate n (λ i. get_or l i d)
  first_elements h =
      is_tabulate d n (λ i. get_or l i d) (take n l) (length-take-le n l h) (λ i p. get_or-take n l i d p)

  pub all_elements : length l ≡ n → l ≡ tabulate n (λ i. get_or l i d)
  all_elements e = is_tabulate d n (λ i. get_or l i d) l e (λ i p. refl)
