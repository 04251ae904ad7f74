-- The padded message: its length, the words of a block that lies in one part of it, and a block that is laid out part by part.
use mathlib.Core.Path.{◌≡◌, refl, sym, ap, ◌∙◌}
use mathlib.Core.List.{List, [], ◌∷◌, ◌++◌, append_assoc}
use Prim.Native.Nat.{ℕ, ◌+◌, ◌-◌, ◌*◌, ◌%◌, ◌^◌, ◌≤◌, ◌<◌}
use native.Mathlib.Omega.{arith}
use lib.ListN.{length, take, drop, replicate, length-append, length-replicate}
use Rattle.laws.specs.Bytes.{big_endian, number}
use Rattle.laws.proofs.Joined.{run_before, run_after}
use Rattle.laws.proofs.BigEndian.{length_big_endian}
use Rattle.laws.proofs.Tabulate.{length_tabulate, tabulate_ext}
use Rattle.padding.specs.Padding.{zeros, padding, pad, words_at, block}
use Rattle.padding.specs.Blocks.{block_at, followed}
use Rattle.padding.proofs.Laying.{empty_block, zeros_after}

pub length_parts : (f h t l : List ℕ) → length (f ++ (h ++ (t ++ l))) ≡ length f + length h + length t + length l
length_parts f h t l = simp length-append (omega arith)

-- the mark and the zeros
abbrev marks : ℕ → List ℕ
marks n = 0x80 ∷ replicate (zeros n) 0

module _ (n : ℕ) where
  length_zeros : length (marks n) ≡ 1 + zeros n
  length_zeros = omega (arith, length-replicate {A = ℕ} (zeros n) 0)

  pub length_padding : length (padding n) ≡ 9 + zeros n
  unfolding padding
  length_padding = omega (arith, length-append (marks n) (big_endian 8 (8 * n)), length_zeros, length_big_endian 8 (8 * n))

pub pad_parts : (m : List ℕ) → pad m ≡ m ++ padding (length m)
unfolding pad
pad_parts m = refl

pub block_words : (p : List ℕ) (i : ℕ) → words_at p (64 * i) ≡ block p i
unfolding block
block_words p i = refl

pub length_words : (p : List ℕ) (k : ℕ) → length (words_at p k) ≡ 16
unfolding words_at
length_words p k = length_tabulate 16 (λ t. number (take 4 (drop (k + 4 * t) p)))

pub length_block : (p : List ℕ) (i : ℕ) → length (block p i) ≡ 16
unfolding block
length_block p i = length_words p (64 * i)

-- the words of a block that lies in the first of two parts, and in the second
module _ (xs ys : List ℕ) (k : ℕ) where
  pub words_before : k + 64 ≤ length xs → words_at (xs ++ ys) k ≡ words_at xs k
  unfolding words_at
  words_before h =
      tabulate_ext 16 (λ t. number (take 4 (drop (k + 4 * t) (xs ++ ys)))) (λ t. number (take 4 (drop (k + 4 * t) xs)))
      (λ t p. ap number (run_before xs ys 4 (k + 4 * t) (omega arith)))

  pub words_after : length xs ≤ k → words_at (xs ++ ys) k ≡ words_at ys (k - length xs)
  unfolding words_at
  words_after h =
      tabulate_ext 16 (λ t. number (take 4 (drop (k + 4 * t) (xs ++ ys)))) (λ t. number (take 4 (drop (k - length xs + 4 * t) ys)))
      (λ t p. let e : k + 4 * t - length xs ≡ k - length xs + 4 * t = omega arith in
      ap number (run_after xs ys 4 (k + 4 * t) (omega arith) ∙ ap (λ (j : ℕ). take 4 (drop j ys)) e))

-- ---- a message with the padding of the whole, after blocks that went before it

pub length_pad : (m : List ℕ) → length (pad m) ≡ length m + (9 + zeros (length m))
length_pad m = ap length (pad_parts m) ∙ length-append m (padding (length m)) ∙ rw (length_padding (length m))

module _ (before : ℕ) (whole : before % 64 ≡ 0) where
  zeros_same : (n : ℕ) → zeros (before + n) ≡ zeros n
  unfolding zeros
  zeros_same n = let e : (before + n) % 64 ≡ n % 64 = omega arith in rw e

  pub length_followed : (m : List ℕ) → length (followed before m) ≡ length m + (9 + zeros (length m))
  unfolding followed
  length_followed m =
      length-append m (padding (before + length m)) ∙ rw (length_padding (before + length m), zeros_same (length m))

  -- the message, the mark, the zeros and the length one after another
  pub followed_parts : (m : List ℕ)
      → ((m ++ (0x80 ∷ [])) ++ replicate (zeros (length m)) 0) ++ big_endian 8 (8 * (before + length m)) ≡ followed before m
  unfolding followed padding
  followed_parts m =
      rw (← zeros_same (length m)) (simp append_assoc)

-- numbers of its bytes fit
pub followed_fits : (before : ℕ) (f h t l : List ℕ) → before % 64 ≡ 0 → length f + length h + length t + length l < 2 ^ 61
    → length (followed before (f ++ (h ++ (t ++ l)))) < 2 ^ 62
unfolding zeros
followed_fits before f h t l w b = omega (arith, length_followed before w (f ++ (h ++ (t ++ l))), length_parts f h t l)

-- a block inside the first part of a message, and one inside the third
module _ (before : ℕ) (f h t l : List ℕ) (i : ℕ) where
  pub block_first : 64 * i + 64 ≤ length f → words_at f (64 * i) ≡ block (followed before (f ++ (h ++ (t ++ l)))) i
  unfolding followed
  block_first b =
      let m = f ++ (h ++ (t ++ l)) in
      let rest = (h ++ (t ++ l)) ++ padding (before + length m) in
      let e : m ++ padding (before + length m) ≡ f ++ rest = append_assoc f (h ++ (t ++ l)) (padding (before + length m)) in
      sym (sym (block_words (m ++ padding (before + length m)) i) ∙ ap (λ (q : List ℕ). words_at q (64 * i)) e ∙ words_before f rest (64 * i) b)

  pub block_tail : length f + length h ≤ 64 * i → 64 * i + 64 ≤ length f + length h + length t
      → words_at t (64 * i - (length f + length h)) ≡ block (followed before (f ++ (h ++ (t ++ l)))) i
  unfolding followed
  block_tail b c =
      let m = f ++ (h ++ (t ++ l)) in
      let rest = l ++ padding (before + length m) in
      let k : 64 * i - (length f + length h) ≡ 64 * i - length f - length h = omega arith in
      let e : m ++ padding (before + length m) ≡ f ++ (h ++ (t ++ rest)) = simp append_assoc in
      sym (sym (block_words (m ++ padding (before + length m)) i)
      ∙ ap (λ (q : List ℕ). words_at q (64 * i)) e
      ∙ rw k
      (words_after f (h ++ (t ++ rest)) (64 * i) (omega arith)
      ∙ words_after h (t ++ rest) (64 * i - length f) (omega arith)
      ∙ words_before t rest (64 * i - length f - length h) (omega arith)))

-- the six parts of a block that is laid out, one after another
abbrev pub Lays : List ℕ → ℕ → ℕ → List ℕ → List ℕ → Type 0
Lays part start at b b' = (m : List ℕ) → length m ≡ start → b ≡ block_at m at → b' ≡ block_at (m ++ part) at

pub six_laid : (before at : ℕ) (f h t l bits b₁ b₂ b₃ b₄ b₅ b₆ : List ℕ) → before % 64 ≡ 0
    → Lays f 0 at (replicate 64 0) b₁
    → Lays h (length f) at b₁ b₂
    → Lays t (length f + length h) at b₂ b₃
    → Lays l (length f + length h + length t) at b₃ b₄
    → Lays (0x80 ∷ []) (length f + length h + length t + length l) at b₄ b₅
    → bits ≡ big_endian 8 (8 * (before + (length f + length h + length t + length l)))
    → Lays bits (length f + length h + length t + length l + 1 + zeros (length f + length h + length t + length l)) at b₅ b₆
    → b₆ ≡ block_at (followed before (f ++ (h ++ (t ++ l)))) at
six_laid before at f h t l bits b₁ b₂ b₃ b₄ b₅ b₆ whole l₁ l₂ l₃ l₄ l₅ eb l₆ =
    let n : ℕ = length f + length h + length t + length l in
    let m : List ℕ = f ++ (h ++ (t ++ l)) in
    let len : length m ≡ n = length_parts f h t l in
    let e₁ : b₁ ≡ block_at f at = l₁ [] refl (empty_block at) in
    let e₂ : b₂ ≡ block_at (f ++ h) at = l₂ f refl e₁ in
    let e₃ : b₃ ≡ block_at ((f ++ h) ++ t) at = l₃ (f ++ h) (length-append f h) e₂ in
    let e₄ : b₄ ≡ block_at (((f ++ h) ++ t) ++ l) at = l₄ ((f ++ h) ++ t) (simp length-append) e₃ in
    let same : ((f ++ h) ++ t) ++ l ≡ m = simp append_assoc in
    let e₅ : b₅ ≡ block_at (m ++ (0x80 ∷ [])) at = l₅ m len (rw same at e₄) in
    let z : List ℕ = (m ++ (0x80 ∷ [])) ++ replicate (zeros n) 0 in
    let e₅' : b₅ ≡ block_at z at = e₅ ∙ sym (zeros_after (m ++ (0x80 ∷ [])) (zeros n) at) in
    let lz : length z ≡ n + 1 + zeros n =
    length-append (m ++ (0x80 ∷ [])) (replicate (zeros n) 0) ∙ rw (length-append m (0x80 ∷ []), length-replicate {A = ℕ} (zeros n) 0, len) in
    l₆ z lz e₅' ∙ rw (eb, ← len) (ap (λ (q : List ℕ). block_at q at) (followed_parts before whole m))
