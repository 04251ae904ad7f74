-- Laws of XOR on numbers, from their halves and last digits: associativity, exchange, cancelling. Then XOR place by place on
-- lists: length, elements, cancelling. And maps that respect XOR, which are known by what they make of the powers of 2.
use mathlib.Core.Path.{◌≡◌, refl, sym, ap, ap₂, ◌∙◌}
use mathlib.Core.List.{List, [], ◌∷◌}
use Prim.Native.Nat.{ℕ, zero, suc, ◌+◌, ◌*◌, ◌/◌, ◌%◌, ◌^◌, ◌≤◌, ◌<◌}
use native.Mathlib.Omega.{arith}
use native.Mathlib.Nat.{add_comm, mod-lt, zero-mul, one-mul}
use native.Mathlib.Numerals.{one-add}
use lib.Arith.{bin_ind}
use lib.Bits.{bit_xor, differ, xor_step, xor_shr, xor_comm, xor_self, xor_zero_r, xor_shifted}
use lib.Pow.{pow_pos, split, shr_lt}
use lib.ListN.{length, get_or}
use Rattle.laws.specs.Bytes.{◌⊕◌}

differ_sum : (p q : ℕ) → p < 2 → q < 2 → differ p q ≡ (p + q) % 2
differ_sum zero q h k = omega arith
differ_sum (suc zero) zero h k = refl
differ_sum (suc zero) (suc zero) h k = refl
differ_sum (suc zero) (suc (suc q)) h k = absurd (omega arith)
differ_sum (suc (suc p)) q h k = absurd (omega arith)

xor_odd : (a b : ℕ) → bit_xor a b % 2 ≡ (a + b) % 2
xor_odd a b =
    let s : bit_xor a b ≡ bit_xor (a / 2) (b / 2) * 2 + differ (a % 2) (b % 2) = xor_step a b in
    let d : differ (a % 2) (b % 2) ≡ (a % 2 + b % 2) % 2 = differ_sum (a % 2) (b % 2) (omega arith) (omega arith) in
    omega arith

odd_add : (u v w : ℕ) → u % 2 ≡ v % 2 → (u + w) % 2 ≡ (v + w) % 2
odd_add u v w h = omega arith

odd_assoc : (a b c : ℕ) → bit_xor (bit_xor a b) c % 2 ≡ bit_xor a (bit_xor b c) % 2
odd_assoc a b c =
    xor_odd (bit_xor a b) c
    ∙ odd_add (bit_xor a b) (a + b) c (xor_odd a b)
    ∙ ap (λ (z : ℕ). z % 2) the_sum
    ∙ sym (odd_add (bit_xor b c) (b + c) a (xor_odd b c))
    ∙ ap (λ (z : ℕ). z % 2) (add_comm (bit_xor b c) a)
    ∙ sym (xor_odd a (bit_xor b c))
  where
    the_sum : a + b + c ≡ b + c + a
    the_sum = omega arith

by_halves : (x y : ℕ) → x / 2 ≡ y / 2 → x % 2 ≡ y % 2 → x ≡ y
by_halves x y h o = omega arith

pub xor_assoc : (a b c : ℕ) → bit_xor (bit_xor a b) c ≡ bit_xor a (bit_xor b c)
xor_assoc a =
    bin_ind (λ (n : ℕ). (b c : ℕ) → bit_xor (bit_xor n b) c ≡ bit_xor n (bit_xor b c)) (λ b c. refl)
    (λ n ih b c.
    by_halves (bit_xor (bit_xor n b) c) (bit_xor n (bit_xor b c))
    (xor_shr (bit_xor n b) c 1
    ∙ ap (λ (z : ℕ). bit_xor z (c / 2)) (xor_shr n b 1)
    ∙ ih (b / 2) (c / 2)
    ∙ ap (λ (z : ℕ). bit_xor (n / 2) z) (sym (xor_shr b c 1))
    ∙ sym (xor_shr n (bit_xor b c) 1))
    (odd_assoc n b c))
    a

pub xor_exchange : (a b c d : ℕ) → bit_xor (bit_xor a b) (bit_xor c d) ≡ bit_xor (bit_xor a c) (bit_xor b d)
xor_exchange a b c d =
    xor_assoc a b (bit_xor c d)
    ∙ ap (λ (z : ℕ). bit_xor a z) (sym (xor_assoc b c d) ∙ ap (λ (z : ℕ). bit_xor z d) (xor_comm b c) ∙ xor_assoc c b d)
    ∙ sym (xor_assoc a c (bit_xor b d))

pub xor_cancel : (a b : ℕ) → bit_xor (bit_xor a b) b ≡ a
xor_cancel a b = xor_assoc a b b ∙ ap (λ (z : ℕ). bit_xor a z) (xor_self b) ∙ xor_zero_r a

-- ---- place by place

pub length_⊕ : (xs ys : List ℕ) → length xs ≤ length ys → length (xs ⊕ ys) ≡ length xs
unfolding ◌⊕◌
length_⊕ [] ys h = refl
length_⊕ (x ∷ xs) [] h = absurd (omega arith)
length_⊕ (x ∷ xs) (y ∷ ys) h = ap suc (length_⊕ xs ys (omega arith))

pub get_or_⊕ : (xs ys : List ℕ) (i : ℕ) → i < length xs → length xs ≤ length ys
    → get_or (xs ⊕ ys) i 0 ≡ bit_xor (get_or xs i 0) (get_or ys i 0)
unfolding ◌⊕◌
get_or_⊕ [] ys i h k = absurd (omega arith)
get_or_⊕ (x ∷ xs) [] i h k = absurd (omega arith)
get_or_⊕ (x ∷ xs) (y ∷ ys) zero h k = refl
get_or_⊕ (x ∷ xs) (y ∷ ys) (suc i) h k = get_or_⊕ xs ys i (omega arith) (omega arith)

pub ⊕_cancel : (xs ys : List ℕ) → length xs ≤ length ys → (xs ⊕ ys) ⊕ ys ≡ xs
unfolding ◌⊕◌
⊕_cancel [] ys h = refl
⊕_cancel (x ∷ xs) [] h = absurd (omega arith)
⊕_cancel (x ∷ xs) (y ∷ ys) h =
    ap₂ (λ (z : ℕ) (zs : List ℕ). z ∷ zs) (xor_cancel x y) (⊕_cancel xs ys (omega arith))

-- ---- maps that respect XOR

abbrev pub Additive : (ℕ → ℕ) → Type 0
Additive f = (x y : ℕ) → f (bit_xor x y) ≡ bit_xor (f x) (f y)

additive_zero : (f : ℕ → ℕ) → Additive f → f 0 ≡ 0
additive_zero f F = F 0 0 ∙ xor_self (f 0)

-- a number is the XOR of its highest digit and the rest
high_xor : (n x : ℕ) → x < 2 ^ suc n → x ≡ bit_xor (x / 2 ^ n * 2 ^ n) (x % 2 ^ n)
high_xor n x h = sym (xor_shifted (x / 2 ^ n) n (x % 2 ^ n) (mod-lt x (pow_pos n)) ∙ split x n)

digit_agree : (f g : ℕ → ℕ) → Additive f → Additive g → (p : ℕ) → f p ≡ g p → (d : ℕ) → d < 2 → f (d * p) ≡ g (d * p)
digit_agree f g F G p e zero h = rw zero-mul (additive_zero f F ∙ sym (additive_zero g G))
digit_agree f g F G p e (suc zero) h = rw one-mul e
digit_agree f g F G p e (suc (suc d)) h = absurd (omega arith)

pub additive_agree : (f g : ℕ → ℕ) → Additive f → Additive g → (n : ℕ) → ((i : ℕ) → i < n → f (2 ^ i) ≡ g (2 ^ i))
    → (x : ℕ) → x < 2 ^ n → f x ≡ g x
additive_agree f g F G zero h x p =
    let e : x ≡ 0 = omega arith in rw e (additive_zero f F ∙ sym (additive_zero g G))
additive_agree f g F G (suc n) h x p =
    let small : x / 2 ^ n < 2 = shr_lt 1 n (rw one-add p) in
    ap f (high_xor n x p)
    ∙ F (x / 2 ^ n * 2 ^ n) (x % 2 ^ n)
    ∙ ap₂ bit_xor
    (digit_agree f g F G (2 ^ n) (h n (omega arith)) (x / 2 ^ n) small)
    (additive_agree f g F G n (λ i q. h i (omega arith)) (x % 2 ^ n) (mod-lt x (pow_pos n)))
    ∙ sym (G (x / 2 ^ n * 2 ^ n) (x % 2 ^ n))
    ∙ ap g (sym (high_xor n x p))
