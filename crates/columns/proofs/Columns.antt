-- Columns in words: shifts, masks and XOR respect XOR, and so does a word made of bytes that do; so what words and bytes give is the same as
-- soon as it is the same at the 32 powers of 2. One law; doubling, mixing and its inverse are uses.
use mathlib.Core.Path.{◌≡◌, refl, sym, ap, ap₂, ◌∙◌}
use mathlib.Core.List.{List, [], ◌∷◌}
use Prim.Native.Nat.{ℕ, ◌+◌, ◌-◌, ◌*◌, ◌/◌, ◌%◌, ◌^◌, ◌<◌}
use native.Mathlib.Omega.{arith}
use native.Mathlib.Nat.{add-zero}
use lib.Arith.{bin_ind}
use lib.Bits.{bit_and, bit_xor, and_shr, and_mod, xor_shr, xor_mod, xor_block, xor_lt, xor_zero_l, and_zero_l}
use lib.Dec.{T, lit<}
use lib.ListN.{get_or}
use lib.Pow.{pow_pos}
use Rattle.laws.specs.Bytes.{big_endian, number, number_after}
use Rattle.words.proofs.Words.{joined, number_joined, bytes_number, byte₀, byte₁, byte₂, byte₃, B₀, B₁, B₂, B₃}
use Rattle.laws.proofs.Table.{same_below, below}
use Rattle.laws.proofs.Xor.{xor_exchange, Additive, additive_agree}
use Rattle.substitution.specs.Field.{xtime, xtimes, bit, product_below, ◌•◌}
use Rattle.substitution.proofs.Bytes.{product_below_lem}
use Rattle.substitution.proofs.Linear.{product_additive}
use Rattle.columns.specs.Turned.{shl, turned}
use Rattle.columns.specs.Columns.{mixed_byte, each_byte, mixed_column, mixed_word}

-- ---- what respects XOR

pub after : (f g : ℕ → ℕ) → Additive f → Additive g → Additive (λ x. f (g x))
after f g F G x y = ap f (G x y) ∙ F (g x) (g y)

pub both : (f g : ℕ → ℕ) → Additive f → Additive g → Additive (λ x. bit_xor (f x) (g x))
both f g F G x y = ap₂ bit_xor (F x y) (G x y) ∙ xor_exchange (f x) (f y) (g x) (g y)

pub right : (k : ℕ) → Additive (λ x. x / 2 ^ k)
right k x y = xor_shr x y k

pub left : (k : ℕ) → Additive (λ x. x * 2 ^ k % 2 ^ 32)
left k x y =
    let e : bit_xor x y * 2 ^ k ≡ bit_xor (x * 2 ^ k) (y * 2 ^ k) =
    sym (ap₂ bit_xor (sym (add-zero (x * 2 ^ k))) (sym (add-zero (y * 2 ^ k))) ∙ xor_block k x y 0 0 (pow_pos k) (pow_pos k) ∙ add-zero (bit_xor x y * 2 ^ k)) in
    ap (λ (z : ℕ). z % 2 ^ 32) e ∙ xor_mod (x * 2 ^ k) (y * 2 ^ k) 32

by_halves : (x y : ℕ) → x / 2 ≡ y / 2 → x % 2 ≡ y % 2 → x ≡ y
by_halves x y h o = omega arith

digits : (a b m : ℕ) → a < 2 → b < 2 → m < 2 → bit_and (bit_xor a b) m ≡ bit_xor (bit_and a m) (bit_and b m)
digits a b m ha hb hm =
    let i : ℕ = a + 2 * b + 4 * m in
    let ea : i % 2 ≡ a = omega arith in
    let half : i / 2 ≡ b + 2 * m = omega arith in
    let eb : i / 2 % 2 ≡ b = rw half (omega arith) in
    let em : i / 4 ≡ m = omega arith in
    rw (ea, eb, em) at (ap (λ (l : List ℕ). get_or l 0 0) (below one other 8 tt i (omega arith)))
  where
    one : ℕ → List ℕ
    one i = bit_and (bit_xor (i % 2) (i / 2 % 2)) (i / 4) ∷ []

    other : ℕ → List ℕ
    other i = bit_xor (bit_and (i % 2) (i / 4)) (bit_and (i / 2 % 2) (i / 4)) ∷ []

and_xor : (a b m : ℕ) → bit_and (bit_xor a b) m ≡ bit_xor (bit_and a m) (bit_and b m)
and_xor a =
    bin_ind (λ (n : ℕ). (b m : ℕ) → bit_and (bit_xor n b) m ≡ bit_xor (bit_and n m) (bit_and b m))
    (λ b m. ap (λ (z : ℕ). bit_and z m) (xor_zero_l b) ∙ sym (ap (λ (z : ℕ). bit_xor z (bit_and b m)) (and_zero_l m) ∙ xor_zero_l (bit_and b m)))
    (λ n ih b m.
    by_halves (bit_and (bit_xor n b) m) (bit_xor (bit_and n m) (bit_and b m))
    (and_shr (bit_xor n b) m 1
    ∙ ap (λ (z : ℕ). bit_and z (m / 2)) (xor_shr n b 1)
    ∙ ih (b / 2) (m / 2)
    ∙ sym (xor_shr (bit_and n m) (bit_and b m) 1 ∙ ap₂ bit_xor (and_shr n m 1) (and_shr b m 1)))
    (and_mod (bit_xor n b) m 1
    ∙ ap (λ (z : ℕ). bit_and z (m % 2)) (xor_mod n b 1)
    ∙ digits (n % 2) (b % 2) (m % 2) (omega arith) (omega arith) (omega arith)
    ∙ sym (xor_mod (bit_and n m) (bit_and b m) 1 ∙ ap₂ bit_xor (and_mod n m 1) (and_mod b m 1))))
    a

pub mask : (m : ℕ) → Additive (λ x. bit_and x m)
mask m x y = and_xor x y m

-- ---- words of four bytes

joined_xor : (a b c d a' b' c' d' : ℕ) → b < 256 → c < 256 → d < 256 → b' < 256 → c' < 256 → d' < 256
    → joined (bit_xor a a') (bit_xor b b') (bit_xor c c') (bit_xor d d') ≡ bit_xor (joined a b c d) (joined a' b' c' d')
joined_xor a b c d a' b' c' d' hb hc hd hb' hc' hd' =
    sym
    (xor_block 8 ((a * 256 + b) * 256 + c) ((a' * 256 + b') * 256 + c') d d' hd hd'
    ∙ ap (λ (z : ℕ). z * 256 + bit_xor d d')
    (xor_block 8 (a * 256 + b) (a' * 256 + b') c c' hc hc'
    ∙ ap (λ (z : ℕ). z * 256 + bit_xor c c') (xor_block 8 a a' b b' hb hb')))

module _ (p q r s : ℕ → ℕ) (P : Additive p) (Q : Additive q) (R : Additive r) (S : Additive s) (hq : (x : ℕ) → q x < 256) (hr : (x : ℕ) → r x < 256) (hs : (x : ℕ) → s x < 256) where
  pub packed : Additive (λ x. number (p x ∷ q x ∷ r x ∷ s x ∷ []))
  packed x y =
      number_joined (p (bit_xor x y)) (q (bit_xor x y)) (r (bit_xor x y)) (s (bit_xor x y))
      ∙ rw (P x y, Q x y, R x y, S x y)
      (joined_xor (p x) (q x) (r x) (s x) (p y) (q y) (r y) (s y) (hq x) (hr x) (hs x) (hq y) (hr y) (hs y)
      ∙ sym (ap₂ bit_xor (number_joined (p x) (q x) (r x) (s x)) (number_joined (p y) (q y) (r y) (s y))))

-- ---- each byte of a word

pub each_additive : (f : ℕ → ℕ) → Additive f → ((b : ℕ) → f b < 256) → Additive (each_byte f)
unfolding each_byte big_endian
each_additive f F h =
    packed (λ w. f (byte₀ w)) (λ w. f (byte₁ w)) (λ w. f (byte₂ w)) (λ w. f (byte₃ w)) (after f byte₀ F B₀) (after f byte₁ F B₁) (after f byte₂ F B₂)
    (after f byte₃ F B₃) (λ w. h (byte₁ w)) (λ w. h (byte₂ w)) (λ w. h (byte₃ w))

-- ---- a mixed column

pub mixed_byte_xor : (a₀ a₁ a₂ a₃ x₀ x₁ x₂ x₃ y₀ y₁ y₂ y₃ : ℕ)
    → mixed_byte a₀ a₁ a₂ a₃ (bit_xor x₀ y₀) (bit_xor x₁ y₁) (bit_xor x₂ y₂) (bit_xor x₃ y₃)
    ≡ bit_xor (mixed_byte a₀ a₁ a₂ a₃ x₀ x₁ x₂ x₃) (mixed_byte a₀ a₁ a₂ a₃ y₀ y₁ y₂ y₃)
unfolding mixed_byte
mixed_byte_xor a₀ a₁ a₂ a₃ x₀ x₁ x₂ x₃ y₀ y₁ y₂ y₃ =
    ap₂ bit_xor
    (ap₂ bit_xor (product_additive a₀ x₀ y₀) (product_additive a₃ x₁ y₁) ∙ xor_exchange (a₀ • x₀) (a₀ • y₀) (a₃ • x₁) (a₃ • y₁))
    (ap₂ bit_xor (product_additive a₂ x₂ y₂) (product_additive a₁ x₃ y₃) ∙ xor_exchange (a₂ • x₂) (a₂ • y₂) (a₁ • x₃) (a₁ • y₃))
    ∙ xor_exchange (bit_xor (a₀ • x₀) (a₃ • x₁)) (bit_xor (a₀ • y₀) (a₃ • y₁)) (bit_xor (a₂ • x₂) (a₁ • x₃)) (bit_xor (a₂ • y₂) (a₁ • y₃))

module _ (a₀ a₁ a₂ a₃ : ℕ) (h₀ : a₀ < 256) (h₁ : a₁ < 256) (h₂ : a₂ < 256) (h₃ : a₃ < 256) where
  abbrev mixes : ℕ → ℕ → ℕ → ℕ → ℕ
  mixes x₀ x₁ x₂ x₃ = mixed_byte a₀ a₁ a₂ a₃ x₀ x₁ x₂ x₃

  mixes_below : (x₀ x₁ x₂ x₃ : ℕ) → mixes x₀ x₁ x₂ x₃ < 256
  unfolding mixed_byte
  mixes_below x₀ x₁ x₂ x₃ =
      xor_lt 8 _ _ (xor_lt 8 (a₀ • x₀) (a₃ • x₁) (product_below_lem a₀ x₀ h₀) (product_below_lem a₃ x₁ h₃))
      (xor_lt 8 (a₂ • x₂) (a₁ • x₃) (product_below_lem a₂ x₂ h₂) (product_below_lem a₁ x₃ h₁))

  mixes_additive : (f₀ f₁ f₂ f₃ : ℕ → ℕ) → Additive f₀ → Additive f₁ → Additive f₂ → Additive f₃ → Additive (λ w. mixes (f₀ w) (f₁ w) (f₂ w) (f₃ w))
  mixes_additive f₀ f₁ f₂ f₃ F₀ F₁ F₂ F₃ x y =
      rw (F₀ x y, F₁ x y, F₂ x y, F₃ x y) (mixed_byte_xor a₀ a₁ a₂ a₃ (f₀ x) (f₁ x) (f₂ x) (f₃ x) (f₀ y) (f₁ y) (f₂ y) (f₃ y))

  pub mixed_additive : Additive (mixed_word a₀ a₁ a₂ a₃)
  unfolding mixed_word big_endian
  mixed_additive =
      packed (λ w. mixes (byte₀ w) (byte₁ w) (byte₂ w) (byte₃ w)) (λ w. mixes (byte₁ w) (byte₂ w) (byte₃ w) (byte₀ w))
      (λ w. mixes (byte₂ w) (byte₃ w) (byte₀ w) (byte₁ w)) (λ w. mixes (byte₃ w) (byte₀ w) (byte₁ w) (byte₂ w))
      (mixes_additive byte₀ byte₁ byte₂ byte₃ B₀ B₁ B₂ B₃) (mixes_additive byte₁ byte₂ byte₃ byte₀ B₁ B₂ B₃ B₀)
      (mixes_additive byte₂ byte₃ byte₀ byte₁ B₂ B₃ B₀ B₁) (mixes_additive byte₃ byte₀ byte₁ byte₂ B₃ B₀ B₁ B₂)
      (λ w. mixes_below (byte₁ w) (byte₂ w) (byte₃ w) (byte₀ w)) (λ w. mixes_below (byte₂ w) (byte₃ w) (byte₀ w) (byte₁ w))
      (λ w. mixes_below (byte₃ w) (byte₀ w) (byte₁ w) (byte₂ w))

-- ---- words that agree at the powers of 2

pub words_agree : (f g : ℕ → ℕ) → Additive f → Additive g → T (same_below (λ i. f (2 ^ i) ∷ []) (λ i. g (2 ^ i) ∷ []) 32) → (w : ℕ) → w < 2 ^ 32 → f w ≡ g w
words_agree f g F G t w h =
    additive_agree f g F G 32
    (λ i p. ap (λ (l : List ℕ). get_or l 0 0) (below (λ j. f (2 ^ j) ∷ []) (λ j. g (2 ^ j) ∷ []) 32 t i p)) w h

-- ---- doubling, as the code does it

abbrev high : ℕ → ℕ
high w = bit_and (w / 2 ^ 7) 0x01010101

H : Additive high
H = after (λ x. bit_and x 0x01010101) (λ x. x / 2 ^ 7) (mask 0x01010101) (right 7)

abbrev shifted : ℕ → ℕ
shifted w = bit_xor (bit_xor (bit_xor (bit_xor (shl 1 (bit_and w 0x7f7f7f7f)) (high w)) (shl 1 (high w))) (shl 3 (high w))) (shl 4 (high w))

shifted_additive : Additive shifted
shifted_additive =
    both (λ w. bit_xor (bit_xor (bit_xor (shl 1 (bit_and w 0x7f7f7f7f)) (high w)) (shl 1 (high w))) (shl 3 (high w))) (λ w. shl 4 (high w))
    (both (λ w. bit_xor (bit_xor (shl 1 (bit_and w 0x7f7f7f7f)) (high w)) (shl 1 (high w))) (λ w. shl 3 (high w))
    (both (λ w. bit_xor (shl 1 (bit_and w 0x7f7f7f7f)) (high w)) (λ w. shl 1 (high w))
    (both (λ w. shl 1 (bit_and w 0x7f7f7f7f)) high (after (shl 1) (λ w. bit_and w 0x7f7f7f7f) (left 1) (mask 0x7f7f7f7f)) H) (after (shl 1) high (left 1) H))
    (after (shl 3) high (left 3) H))
    (after (shl 4) high (left 4) H)

-- 2 times each byte
abbrev twice : ℕ → ℕ
twice = each_byte (λ b. 2 • b)

T₂ : Additive twice
T₂ = each_additive (λ b. 2 • b) (product_additive 2) (λ b. product_below_lem 2 b (lit< tt))

pub doubled_word : (w : ℕ) → w < 2 ^ 32 → shifted w ≡ twice w
unfolding each_byte big_endian number number_after ◌•◌ product_below bit xtimes xtime
doubled_word = words_agree shifted twice shifted_additive T₂ tt

-- ---- mixing, as the code does it

pub turned_additive : (k : ℕ) → Additive (turned k)
turned_additive k = both (shl k) (λ x. x / 2 ^ (32 - k)) (left k) (right (32 - k))

abbrev mixing : ℕ → ℕ
mixing w = bit_xor (bit_xor (bit_xor (twice w) (turned 8 (bit_xor (twice w) w))) (turned 16 w)) (turned 24 w)

pub same : Additive (λ x. x)
same x y = refl

thrice_additive : Additive (λ w. bit_xor (twice w) w)
thrice_additive = both twice (λ w. w) T₂ same

mixing_additive : Additive mixing
mixing_additive =
    both (λ w. bit_xor (bit_xor (twice w) (turned 8 (bit_xor (twice w) w))) (turned 16 w)) (turned 24)
    (both (λ w. bit_xor (twice w) (turned 8 (bit_xor (twice w) w))) (turned 16)
    (both twice (λ w. turned 8 (bit_xor (twice w) w)) T₂ (after (turned 8) (λ w. bit_xor (twice w) w) (turned_additive 8) thrice_additive))
    (turned_additive 16))
    (turned_additive 24)

pub mixing_word : (w : ℕ) → w < 2 ^ 32 → mixing w ≡ mixed_word 0x02 0x01 0x01 0x03 w
unfolding mixed_word mixed_byte each_byte big_endian number number_after ◌•◌ product_below bit xtimes xtime
mixing_word = words_agree mixing (mixed_word 0x02 0x01 0x01 0x03) mixing_additive (mixed_additive 0x02 0x01 0x01 0x03 (lit< tt) (lit< tt) (lit< tt) (lit< tt)) tt

-- and back
abbrev unmixing : ℕ → ℕ
unmixing w = mixed_word 0x02 0x01 0x01 0x03 (bit_xor w (twice (twice (bit_xor w (turned 16 w)))))

unmixing_additive : Additive unmixing
unmixing_additive =
    after (mixed_word 0x02 0x01 0x01 0x03) (λ w. bit_xor w (twice (twice (bit_xor w (turned 16 w)))))
    (mixed_additive 0x02 0x01 0x01 0x03 (lit< tt) (lit< tt) (lit< tt) (lit< tt))
    (both (λ w. w) (λ w. twice (twice (bit_xor w (turned 16 w)))) same
    (after twice (λ w. twice (bit_xor w (turned 16 w))) T₂
    (after twice (λ w. bit_xor w (turned 16 w)) T₂ (both (λ w. w) (turned 16) same (turned_additive 16)))))

pub unmixing_word : (w : ℕ) → w < 2 ^ 32 → unmixing w ≡ mixed_word 0x0e 0x09 0x0d 0x0b w
unfolding mixed_word mixed_byte each_byte big_endian number number_after ◌•◌ product_below bit xtimes xtime
unmixing_word = words_agree unmixing (mixed_word 0x0e 0x09 0x0d 0x0b) unmixing_additive (mixed_additive 0x0e 0x09 0x0d 0x0b (lit< tt) (lit< tt) (lit< tt) (lit< tt)) tt

module _ (a₀ a₁ a₂ a₃ : ℕ) (h₀ : a₀ < 256) (h₁ : a₁ < 256) (h₂ : a₂ < 256) (h₃ : a₃ < 256) where
  -- the bytes of a column that is mixed in its word
  pub word_mixed : (w : ℕ)
      → big_endian 4 (mixed_word a₀ a₁ a₂ a₃ w)
      ≡ mixed_column a₀ a₁ a₂ a₃ (get_or (big_endian 4 w) 0 0) (get_or (big_endian 4 w) 1 0) (get_or (big_endian 4 w) 2 0) (get_or (big_endian 4 w) 3 0)
  unfolding mixed_word
  word_mixed w =
      let below = mixes_below a₀ a₁ a₂ a₃ h₀ h₁ h₂ h₃ in
      bytes_number _ _ _ _ (below _ _ _ _) (below _ _ _ _) (below _ _ _ _) (below _ _ _ _)
