-- Words and their bytes: a word of four bytes gives them back, XOR goes byte by byte, and a run of whole words is the bytes of those words.
use mathlib.Core.Path.{◌≡◌, refl, sym, ap, ◌∙◌}
use mathlib.Core.List.{List, [], ◌∷◌, ◌++◌, append_assoc}
use Prim.Native.Nat.{ℕ, zero, suc, ◌+◌, ◌*◌, ◌/◌, ◌%◌, ◌≤◌, ◌<◌}
use native.Mathlib.Omega.{arith}
use lib.Bits.{bit_xor, xor_shr, xor_mod}
use lib.ListN.{length, get_or, take, drop}
use lib.Seq.{drop-cons}
use Rattle.laws.specs.Bytes.{big_endian, number, number_after, ◌⊕◌}
use Rattle.laws.proofs.Xor.{Additive}
use Rattle.words.specs.Words.{bytes_of}

-- ---- a word of four bytes

-- four bytes as the digits of a word
abbrev pub joined : ℕ → ℕ → ℕ → ℕ → ℕ
joined a b c d = ((a * 256 + b) * 256 + c) * 256 + d

pub number_joined : (a b c d : ℕ) → number (a ∷ b ∷ c ∷ d ∷ []) ≡ joined a b c d
unfolding number number_after
number_joined a b c d = omega arith

pub bytes_number : (a b c d : ℕ) → a < 256 → b < 256 → c < 256 → d < 256 → big_endian 4 (number (a ∷ b ∷ c ∷ d ∷ [])) ≡ a ∷ b ∷ c ∷ d ∷ []
unfolding big_endian
bytes_number a b c d ha hb hc hd =
    let e₀ : joined a b c d / 256 / 256 / 256 % 256 ≡ a = omega arith in
    let e₁ : joined a b c d / 256 / 256 % 256 ≡ b = omega arith in
    let e₂ : joined a b c d / 256 % 256 ≡ c = omega arith in
    let e₃ : joined a b c d % 256 ≡ d = omega arith in
    rw (number_joined a b c d, e₀, e₁, e₂, e₃)

-- the bytes of a word
abbrev pub byte₀ : ℕ → ℕ
byte₀ w = w / 256 / 256 / 256 % 256

abbrev pub byte₁ : ℕ → ℕ
byte₁ w = w / 256 / 256 % 256

abbrev pub byte₂ : ℕ → ℕ
byte₂ w = w / 256 % 256

abbrev pub byte₃ : ℕ → ℕ
byte₃ w = w % 256

pub B₃ : Additive byte₃
B₃ x y = xor_mod x y 8

next : (f : ℕ → ℕ) → Additive f → Additive (λ w. f (w / 256))
next f F x y = ap f (xor_shr x y 8) ∙ F (x / 256) (y / 256)

pub B₂ : Additive byte₂
B₂ = next byte₃ B₃

pub B₁ : Additive byte₁
B₁ = next byte₂ B₂

pub B₀ : Additive byte₀
B₀ = next byte₁ B₁

pub bytes_xor : (x y : ℕ) → big_endian 4 (bit_xor x y) ≡ big_endian 4 x ⊕ big_endian 4 y
unfolding big_endian ◌⊕◌
bytes_xor x y = rw (B₀ x y, B₁ x y, B₂ x y, B₃ x y)

-- ---- words one after another

pub length_bytes_of : (ws : List ℕ) → length (bytes_of ws) ≡ 4 * length ws
unfolding bytes_of big_endian
length_bytes_of [] = refl
length_bytes_of (w ∷ ws) = let e : length (bytes_of ws) ≡ 4 * length ws = length_bytes_of ws in omega arith

pub bytes_of_append : (xs ys : List ℕ) → bytes_of (xs ++ ys) ≡ bytes_of xs ++ bytes_of ys
unfolding bytes_of
bytes_of_append [] ys = refl
bytes_of_append (x ∷ xs) ys = ap (λ (l : List ℕ). big_endian 4 x ++ l) (bytes_of_append xs ys) ∙ sym (append_assoc (big_endian 4 x) (bytes_of xs) (bytes_of ys))

pub bytes_of_xor : (xs ys : List ℕ) → bytes_of (xs ⊕ ys) ≡ bytes_of xs ⊕ bytes_of ys
unfolding bytes_of big_endian ◌⊕◌
bytes_of_xor [] ys = refl
bytes_of_xor (x ∷ xs) [] = refl
bytes_of_xor (x ∷ xs) (y ∷ ys) = rw (B₀ x y, B₁ x y, B₂ x y, B₃ x y, bytes_of_xor xs ys)

four_more : (k : ℕ) → 4 * suc k ≡ suc (suc (suc (suc (4 * k))))
four_more k = omega arith

pub drop_bytes_of : (k : ℕ) (ws : List ℕ) → drop (4 * k) (bytes_of ws) ≡ bytes_of (drop k ws)
unfolding bytes_of big_endian
drop_bytes_of zero ws = refl
drop_bytes_of (suc k) [] = rw four_more
drop_bytes_of (suc k) (w ∷ ws) = rw four_more (drop_bytes_of k ws)

pub take_bytes_of : (k : ℕ) (ws : List ℕ) → take (4 * k) (bytes_of ws) ≡ bytes_of (take k ws)
unfolding bytes_of big_endian
take_bytes_of zero ws = refl
take_bytes_of (suc k) [] = rw four_more
take_bytes_of (suc k) (w ∷ ws) = rw (four_more, take_bytes_of k ws)

-- a word by its place
pub word_at : (ws : List ℕ) (i : ℕ) → i < length ws → take 4 (drop (4 * i) (bytes_of ws)) ≡ big_endian 4 (get_or ws i 0)
unfolding bytes_of big_endian
word_at ws i h = rw (drop_bytes_of i ws, drop-cons ws i 0)

-- four words by their place
pub state_at : (ws : List ℕ) (r : ℕ) → 4 * r + 4 ≤ length ws
    → take 16 (drop (16 * r) (bytes_of ws)) ≡ bytes_of (get_or ws (4 * r) 0 ∷ get_or ws (4 * r + 1) 0 ∷ get_or ws (4 * r + 2) 0 ∷ get_or ws (4 * r + 3) 0 ∷ [])
state_at ws r h =
    let place : 16 * r ≡ 4 * (4 * r) = omega arith in
    let one : 4 * r + 1 ≡ suc (4 * r) = omega arith in
    let two : 4 * r + 2 ≡ suc (suc (4 * r)) = omega arith in
    let three : 4 * r + 3 ≡ suc (suc (suc (4 * r))) = omega arith in
    rw (place, drop_bytes_of (4 * r) ws)
    (take_bytes_of 4 (drop (4 * r) ws)
    ∙ ap bytes_of
    (ap (take 4) (drop-cons ws (4 * r) 0 (omega arith))
    ∙ rw (drop-cons ws (suc (4 * r)) 0 (omega arith), drop-cons ws (suc (suc (4 * r))) 0 (omega arith), drop-cons ws (suc (suc (suc (4 * r)))) 0 (omega arith), one, two, three)))
