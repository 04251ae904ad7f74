-- Laying out 64 bytes of a list part by part: a list that ends before them leaves zeros, one more byte is one store, and what lies past them or is
-- zero changes nothing. Then the words of 64 bytes that were laid out.
use mathlib.Core.Path.{◌≡◌, refl, sym, ap, ◌∙◌}
use mathlib.Core.List.{List, [], ◌∷◌, ◌++◌, append_assoc, append-nil}
use Prim.Native.Nat.{ℕ, zero, suc, ◌+◌, ◌-◌, ◌*◌, ◌≤◌, ◌<◌}
use native.Mathlib.Omega.{arith}
use native.Mathlib.Decide.{dec_lt}
use native.Mathlib.Numerals.{add-one}
use lib.ListN.{length, get_or, take, drop, set, replicate, length-append, length-replicate, length-set, get_or-replicate, take-append-drop, get_or-append, get_or-eq_default}
use lib.Seq.{get_or-set_same, get_or-set_other, get_or_at, take_all, take-suc, length-take-le}
use Rattle.laws.specs.Bytes.{tabulate, number}
use Rattle.laws.proofs.Tabulate.{length_tabulate, get_or_tabulate, tabulate_ext, is_tabulate}
use Rattle.laws.proofs.Joined.{get_or_after}
use Rattle.laws.proofs.BigEndian.{number_four}
use Rattle.padding.specs.Padding.{words_at}
use Rattle.padding.specs.Blocks.{block_at}

-- a byte past the end is zero
past : (l : List ℕ) (i : ℕ) → length l ≤ i → get_or l i 0 ≡ 0
past l i h = get_or-eq_default l 0 h

pub length_block_at : (l : List ℕ) (at : ℕ) → length (block_at l at) ≡ 64
unfolding block_at
length_block_at l at = length_tabulate 64 (λ j. get_or l (at + j) 0)

pub get_or_block_at : (l : List ℕ) (at j : ℕ) → j < 64 → get_or (block_at l at) j 0 ≡ get_or l (at + j) 0
unfolding block_at
get_or_block_at l at j h = get_or_tabulate 64 (λ i. get_or l (at + i) 0) j 0 h

pub empty_block : (at : ℕ) → replicate 64 0 ≡ block_at [] at
unfolding block_at tabulate
empty_block at = refl

-- lists that have the same bytes there
pub same_block : (l r : List ℕ) (at : ℕ) → ((i : ℕ) → at ≤ i → i < at + 64 → get_or l i 0 ≡ get_or r i 0) → block_at l at ≡ block_at r at
unfolding block_at
same_block l r at e = tabulate_ext 64 (λ j. get_or l (at + j) 0) (λ j. get_or r (at + j) 0) (λ j h. e (at + j) (omega arith) (omega arith))

-- a list that has ended
pub no_bytes : (l r : List ℕ) (at : ℕ) → length l ≤ at → length r ≤ at → block_at l at ≡ block_at r at
no_bytes l r at hl hr = same_block l r at (λ i h k. past l i (omega arith) ∙ sym (past r i (omega arith)))

-- more of a list than the block reaches
pub beyond : (l r : List ℕ) (at : ℕ) → at + 64 ≤ length l → block_at l at ≡ block_at (l ++ r) at
beyond l r at h = same_block l (l ++ r) at (λ i p q. sym (get_or-append l r 0 i (omega arith)))

-- zeros at the end
pub zeros_after : (l : List ℕ) (n at : ℕ) → block_at (l ++ replicate {A = ℕ} n 0) at ≡ block_at l at
zeros_after l n at = same_block (l ++ replicate {A = ℕ} n 0) l at (λ i p q. byte i)
  where
    zero_at : (k : ℕ) → get_or (replicate {A = ℕ} n 0) k 0 ≡ 0
    zero_at k = go (dec_lt k n)
      where
        go : Dec (k < n) → get_or (replicate {A = ℕ} n 0) k 0 ≡ 0
        go (yes p) = get_or-replicate n k 0 0 p
        go (no q) = past (replicate {A = ℕ} n 0) k (rw length-replicate (omega arith))

    byte : (i : ℕ) → get_or (l ++ replicate {A = ℕ} n 0) i 0 ≡ get_or l i 0
    byte i = go (dec_lt i (length l))
      where
        go : Dec (i < length l) → get_or (l ++ replicate {A = ℕ} n 0) i 0 ≡ get_or l i 0
        go (yes p) = get_or-append l (replicate {A = ℕ} n 0) 0 i p
        go (no q) =
            get_or_after l (replicate {A = ℕ} n 0) i 0 (omega arith) ∙ zero_at (i - length l) ∙ sym (past l i (omega arith))

-- one byte more, at place j of the block
pub one_more : (l : List ℕ) (at j x : ℕ) → j < 64 → length l ≡ at + j → set (block_at l at) j x ≡ block_at (l ++ (x ∷ [])) at
unfolding block_at
one_more l at j x h e =
    is_tabulate 0 64 (λ i. get_or (l ++ (x ∷ [])) (at + i) 0) (set (block_at l at) j x)
    (length-set (block_at l at) j x ∙ length_block_at l at) (λ i p. byte i p (dec_lt i j) (dec_lt j i))
  where
    other : (i : ℕ) → i < 64 → (i ≡ j → ⊥) → get_or l (at + i) 0 ≡ get_or (l ++ (x ∷ [])) (at + i) 0
        → get_or (set (block_at l at) j x) i 0 ≡ get_or (l ++ (x ∷ [])) (at + i) 0
    other i p q r = get_or-set_other (block_at l at) j i x 0 q ∙ get_or_block_at l at i p ∙ r

    byte : (i : ℕ) → i < 64 → Dec (i < j) → Dec (j < i) → get_or (set (block_at l at) j x) i 0 ≡ get_or (l ++ (x ∷ [])) (at + i) 0
    byte i p (yes q) r = other i p (λ n. omega arith) (sym (get_or-append l (x ∷ []) 0 (at + i) (omega arith)))
    byte i p (no q) (yes r) =
        other i p (λ n. omega arith)
        (past l (at + i) (omega arith) ∙ sym (past (l ++ (x ∷ [])) (at + i) (rw length-append (omega arith))))
    byte i p (no q) (no r) =
        let same : i ≡ j = omega arith in
        let inside : j < length (block_at l at) = omega (arith, length_block_at l at) in
        rw same (get_or-set_same (block_at l at) j x 0 inside ∙ sym (get_or_at l x [] 0 (at + j) e))

-- ---- a part, from its byte k on

module _ (m part : List ℕ) (at : ℕ) where
  -- the first k bytes of the part are in place
  abbrev pub laid : ℕ → List ℕ
  laid k = block_at (m ++ take k part) at

  pub laid_none : block_at m at ≡ laid 0
  laid_none = rw append-nil

  pub laid_skipped : (k : ℕ) → k ≡ at - length m → length m < at → block_at m at ≡ laid k
  laid_skipped k e h =
      no_bytes m (m ++ take k part) at (omega arith) (rw length-append (omega (arith, take_short k part)))
    where
      take_short : (n : ℕ) (l : List ℕ) → length (take n l) ≤ n
      take_short zero l = omega arith
      take_short (suc n) [] = omega arith
      take_short (suc n) (x ∷ l) = omega (arith, take_short n l)

  pub laid_more : (k j : ℕ) (block : List ℕ) → k < length part → j < 64 → length m + k ≡ at + j → block ≡ laid k
      → set block j (get_or part k 0) ≡ laid (k + 1)
  laid_more k j block h p e f =
      let long : length (m ++ take k part) ≡ at + j = length-append m (take k part) ∙ rw (length-take-le k part (omega arith)) e in
      let next : (m ++ take k part) ++ (get_or part k 0 ∷ []) ≡ m ++ take (k + 1) part =
      append_assoc m (take k part) (get_or part k 0 ∷ []) ∙ rw (add-one, take-suc part k 0 h) in
      rw f (one_more (m ++ take k part) at j (get_or part k 0) p long ∙ ap (λ (l : List ℕ). block_at l at) next)

  pub laid_all : (k : ℕ) → length part ≤ k → laid k ≡ block_at (m ++ part) at
  laid_all k h = rw (take_all k part h)

  pub laid_enough : (k : ℕ) → k ≤ length part → at + 64 ≤ length m + k → laid k ≡ block_at (m ++ part) at
  laid_enough k h e =
      let long : at + 64 ≤ length (m ++ take k part) = rw (length-append, length-take-le k part h) e in
      beyond (m ++ take k part) (drop k part) at long ∙ ap (λ (l : List ℕ). block_at l at) (append_assoc m (take k part) (drop k part) ∙ rw (take-append-drop k part))

-- ---- the words of 64 bytes

pub block_words_of : (q : List ℕ) (at : ℕ) → at + 64 ≤ length q → words_at (block_at q at) 0 ≡ words_at q at
unfolding words_at
block_words_of q at h =
    tabulate_ext 16 (λ t. number (take 4 (drop (0 + 4 * t) (block_at q at)))) (λ t. number (take 4 (drop (at + 4 * t) q))) (λ t p. word t p)
  where
    word : (t : ℕ) → t < 16 → number (take 4 (drop (0 + 4 * t) (block_at q at))) ≡ number (take 4 (drop (at + 4 * t) q))
    word t p =
        let k : ℕ = 0 + 4 * t in
        let room : k + 4 ≤ length (block_at q at) = omega (arith, length_block_at q at) in
        let b₀ : get_or (block_at q at) k 0 ≡ get_or q (at + 4 * t) 0 = byte k (at + 4 * t) (omega arith) (omega arith) in
        let b₁ : get_or (block_at q at) (k + 1) 0 ≡ get_or q (at + 4 * t + 1) 0 = byte (k + 1) (at + 4 * t + 1) (omega arith) (omega arith) in
        let b₂ : get_or (block_at q at) (k + 2) 0 ≡ get_or q (at + 4 * t + 2) 0 = byte (k + 2) (at + 4 * t + 2) (omega arith) (omega arith) in
        let b₃ : get_or (block_at q at) (k + 3) 0 ≡ get_or q (at + 4 * t + 3) 0 = byte (k + 3) (at + 4 * t + 3) (omega arith) (omega arith) in
        number_four (block_at q at) k room ∙ four b₀ b₁ b₂ b₃ ∙ sym (number_four q (at + 4 * t) (omega arith))
      where
        byte : (j i : ℕ) → j < 64 → at + j ≡ i → get_or (block_at q at) j 0 ≡ get_or q i 0
        byte j i r e = get_or_block_at q at j r ∙ ap (λ (x : ℕ). get_or q x 0) e

        four : {a b c d a' b' c' d' : ℕ} → a ≡ a' → b ≡ b' → c ≡ c' → d ≡ d' → number (a ∷ b ∷ c ∷ d ∷ []) ≡ number (a' ∷ b' ∷ c' ∷ d' ∷ [])
        four p q r s = cc
