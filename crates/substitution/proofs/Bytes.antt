-- What the operations leave of "every element is below 256", stated as get_or s i 0 < 256 at every i: it holds past the end too.
--
use mathlib.Core.Path.{◌≡◌, ap}
use mathlib.Core.List.{List, [], ◌∷◌, ◌++◌, map}
use Prim.Native.Nat.{ℕ, zero, suc, ◌+◌, ◌*◌, ◌/◌, ◌^◌, ◌≤◌, ◌<◌}
use native.Mathlib.Omega.{arith}
use native.Mathlib.Nat.{mod-lt, zero-mul, one-mul, pow-suc}
use native.Mathlib.Decide.{dec_lt}
use lib.Bits.{xor_lt}
use lib.Dec.{T, lit<}
use lib.ListN.{length, get_or, take, drop, get_or-eq_default}
use lib.Seq.{get_or-drop}
use Rattle.laws.specs.Bytes.{tabulate, ◌⊕◌}
use Rattle.laws.proofs.Table.{same_below, below}
use Rattle.laws.proofs.Tabulate.{length_tabulate, get_or_tabulate}
use Rattle.substitution.specs.Field.{xtime, xtimes, bit, product_below, ◌•◌, power2, inverse}
use Rattle.substitution.specs.Box.{byte_of, affine, affine_inverse, SBox, InvSBox}

abbrev pub Bytes : List ℕ → Type 0
Bytes s = (i : ℕ) → get_or s i 0 < 256

pub bytes_map : (f : ℕ → ℕ) → ((b : ℕ) → f b < 256) → (s : List ℕ) → Bytes (map f s)
bytes_map f h [] i = lit< tt
bytes_map f h (x ∷ s) zero = h x
bytes_map f h (x ∷ s) (suc i) = bytes_map f h s i

pub bytes_append : (s t : List ℕ) → Bytes s → Bytes t → Bytes (s ++ t)
bytes_append [] t hs ht i = ht i
bytes_append (x ∷ s) t hs ht zero = hs 0
bytes_append (x ∷ s) t hs ht (suc i) = bytes_append s t (λ j. hs (suc j)) ht i

pub bytes_take : (n : ℕ) (s : List ℕ) → Bytes s → Bytes (take n s)
bytes_take zero s h i = lit< tt
bytes_take (suc n) [] h i = lit< tt
bytes_take (suc n) (x ∷ s) h zero = h 0
bytes_take (suc n) (x ∷ s) h (suc i) = bytes_take n s (λ j. h (suc j)) i

pub bytes_drop : (n : ℕ) (s : List ℕ) → Bytes s → Bytes (drop n s)
bytes_drop n s h i = rw get_or-drop (h (n + i))

pub bytes_⊕ : (s t : List ℕ) → Bytes s → Bytes t → Bytes (s ⊕ t)
unfolding ◌⊕◌
bytes_⊕ [] t hs ht i = lit< tt
bytes_⊕ (x ∷ s) [] hs ht i = lit< tt
bytes_⊕ (x ∷ s) (y ∷ t) hs ht zero = xor_lt 8 x y (hs 0) (ht 0)
bytes_⊕ (x ∷ s) (y ∷ t) hs ht (suc i) = bytes_⊕ s t (λ j. hs (suc j)) (λ j. ht (suc j)) i

pub bytes_tabulate : (n : ℕ) (f : ℕ → ℕ) → ((i : ℕ) → f i < 256) → Bytes (tabulate n f)
bytes_tabulate n f h i = go (dec_lt i n)
  where
    go : Dec (i < n) → get_or (tabulate n f) i 0 < 256
    go (yes p) = rw (get_or_tabulate n f i 0 p) (h i)
    go (no q) =
        let out : length (tabulate n f) ≤ i = rw length_tabulate (omega arith) in
        rw (get_or-eq_default (tabulate n f) 0 out) (lit< tt)

-- ---- the field and the boxes

xtime_computed : T (same_below (λ b. xtime b / 256 ∷ []) (λ b. 0 ∷ []) 256)
unfolding xtime
xtime_computed = tt

xtime_below : (b : ℕ) → b < 256 → xtime b < 256
xtime_below b h =
    let e : xtime b / 256 ≡ 0 = ap (λ (l : List ℕ). get_or l 0 0) (below (λ k. xtime k / 256 ∷ []) (λ k. 0 ∷ []) 256 xtime_computed b h) in
    omega arith

pub xtimes_below : (i b : ℕ) → b < 256 → xtimes i b < 256
unfolding xtimes
xtimes_below zero b h = h
xtimes_below (suc i) b h = xtime_below (xtimes i b) (xtimes_below i b h)

digit_below : (d t : ℕ) → d < 2 → t < 256 → d * t < 256
digit_below zero t h k = rw zero-mul (lit< tt)
digit_below (suc zero) t h k = rw one-mul k
digit_below (suc (suc d)) t h k = absurd (omega arith)

product_below_below : (n b c : ℕ) → b < 256 → product_below n b c < 256
unfolding product_below bit
product_below_below zero b c h = lit< tt
product_below_below (suc i) b c h =
    xor_lt 8 (product_below i b c) (bit i c * xtimes i b) (product_below_below i b c h)
    (digit_below (bit i c) (xtimes i b) (mod-lt (c / 2 ^ i) (lit< tt)) (xtimes_below i b h))

pub product_below_lem : (b c : ℕ) → b < 256 → b • c < 256
unfolding ◌•◌
product_below_lem b c h = product_below_below 8 b c h

digit_le : (d p : ℕ) → d < 2 → d * p ≤ p
digit_le zero p h = rw zero-mul (omega arith)
digit_le (suc zero) p h = rw one-mul (omega arith)
digit_le (suc (suc d)) p h = absurd (omega arith)

byte_of_below : (n : ℕ) (f : ℕ → ℕ) → ((i : ℕ) → f i < 2) → byte_of n f < 2 ^ n
unfolding byte_of
byte_of_below zero f h = lit< tt
byte_of_below (suc n) f h = rw (pow-suc 2 n) (omega (arith, byte_of_below n f h, digit_le (f n) (2 ^ n) (h n)))

affine_below : (b : ℕ) → affine b < 256
unfolding affine
affine_below b = byte_of_below 8 _ (λ i. mod-lt _ (lit< tt))

pub affine_inverse_below : (b : ℕ) → affine_inverse b < 256
unfolding affine_inverse
affine_inverse_below b = byte_of_below 8 _ (λ i. mod-lt _ (lit< tt))

inverse_below : (b : ℕ) → b < 256 → inverse b < 256
unfolding inverse power2
inverse_below b h =
    product_below_lem _ _
    (product_below_lem _ _
    (product_below_lem _ _ (product_below_lem _ _ (product_below_lem _ _ (product_below_lem _ _ (product_below_lem b b h))))))

pub SBox-below : (b : ℕ) → SBox b < 256
unfolding SBox
SBox-below b = affine_below (inverse b)

pub InvSBox-below : (b : ℕ) → InvSBox b < 256
unfolding InvSBox
InvSBox-below b = inverse_below (affine_inverse b) (affine_inverse_below b)
