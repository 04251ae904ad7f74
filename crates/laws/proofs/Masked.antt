-- Laws of XOR place by place: its length, its elements, and XOR with one byte repeated.
use mathlib.Core.Path.{◌≡◌, refl, ap, ◌∙◌}
use mathlib.Core.List.{List, [], ◌∷◌}
use Prim.Native.Nat.{ℕ, zero, suc, ◌<◌}
use native.Mathlib.Omega.{arith}
use lib.ListN.{length, get_or, replicate, length-replicate, get_or-replicate}
use lib.Bits.{bit_xor}
use Rattle.laws.specs.Bytes.{tabulate, ◌⊕◌}
use Rattle.laws.proofs.Tabulate.{is_tabulate}

pub length_xor : (xs ys : List ℕ) → length xs ≡ length ys → length (xs ⊕ ys) ≡ length xs
unfolding ◌⊕◌
length_xor [] ys e = refl
length_xor (x ∷ xs) [] e = absurd (omega arith)
length_xor (x ∷ xs) (y ∷ ys) e = ap suc (length_xor xs ys (omega arith))

pub get_or_xor : (xs ys : List ℕ) (i : ℕ) → length xs ≡ length ys → i < length xs → get_or (xs ⊕ ys) i 0 ≡ bit_xor (get_or xs i 0) (get_or ys i 0)
unfolding ◌⊕◌
get_or_xor [] ys i e h = absurd (omega arith)
get_or_xor (x ∷ xs) [] i e h = absurd (omega arith)
get_or_xor (x ∷ xs) (y ∷ ys) zero e h = refl
get_or_xor (x ∷ xs) (y ∷ ys) (suc i) e h = get_or_xor xs ys i (omega arith) (omega arith)

pub masked : (xs : List ℕ) (n x : ℕ) → length xs ≡ n → xs ⊕ replicate n x ≡ tabulate n (λ i. bit_xor (get_or xs i 0) x)
masked xs n x e =
    let f : length xs ≡ length (replicate n x) = rw length-replicate e in
    is_tabulate 0 n (λ i. bit_xor (get_or xs i 0) x) (xs ⊕ replicate n x) (length_xor xs (replicate n x) f ∙ e)
    (λ i h. get_or_xor xs (replicate n x) i f (omega arith) ∙ ap (bit_xor (get_or xs i 0)) (get_or-replicate n i x 0 h))
