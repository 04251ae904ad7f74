-- Lists of bytes as the standards and the paper speak of them: tabulated lists, big-endian numbers, XOR byte by byte.
use Rattle.std.specs.Prelude.{ℕ, zero, suc, ◌+◌, ◌*◌, ◌/◌, ◌%◌, List, [], ◌∷◌, ◌++◌, Bool, true, false, ◌&&◌, eqb}
use Rattle.std.specs.Int.Bits.{bit_xor}

module _ {A : Type 0} where
  -- the list f 0, f 1, .., f (n - 1)
  unfoldable pub tabulate : ℕ → (ℕ → A) → List A
  tabulate zero f = []
  tabulate (suc n) f = tabulate n f ++ (f n ∷ [])

-- the k lowest bytes of n, the most significant first
unfoldable pub big_endian : ℕ → ℕ → List ℕ
big_endian zero n = []
big_endian (suc k) n = big_endian k (n / 256) ++ (n % 256 ∷ [])

-- v with the bytes after it, the most significant first
unfoldable pub number_after : ℕ → List ℕ → ℕ
number_after v [] = v
number_after v (b ∷ bs) = number_after (v * 256 + b) bs

-- the number whose big-endian bytes these are
unfoldable pub number : List ℕ → ℕ
number bs = number_after 0 bs

-- XOR, place by place; as long as the shorter list
unfoldable pub ◌⊕◌ : List ℕ → List ℕ → List ℕ
[] ⊕ ys = []
(x ∷ xs) ⊕ [] = []
(x ∷ xs) ⊕ (y ∷ ys) = bit_xor x y ∷ (xs ⊕ ys)

infixl 60 ◌⊕◌
-- whether two lists are the same, byte by byte
unfoldable pub same_bytes : List ℕ → List ℕ → Bool
same_bytes [] [] = true
same_bytes [] (y ∷ ys) = false
same_bytes (x ∷ xs) [] = false
same_bytes (x ∷ xs) (y ∷ ys) = eqb x y && same_bytes xs ys

unfoldable pub all_zero : List ℕ → Bool
all_zero [] = true
all_zero (x ∷ xs) = eqb x 0 && all_zero xs
