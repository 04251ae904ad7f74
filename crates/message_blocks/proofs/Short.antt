-- A message under 56 bytes has one block with its padding. Its parts put one after another into 64 zeros, then the mark: these are the block's
-- bytes up to the length, which is put in as the last two words.
use mathlib.Core.Path.{◌≡◌, sym, ap, ◌∙◌}
use mathlib.Core.List.{List, [], ◌∷◌, ◌++◌, append_assoc}
use Prim.Native.Nat.{ℕ, ◌+◌, ◌-◌, ◌*◌, ◌/◌, ◌%◌, ◌^◌, ◌≤◌, ◌<◌}
use native.Mathlib.Omega.{arith}
use native.Mathlib.Decide.{dec_lt}
use lib.ListN.{length, get_or, take, drop, set, replicate, length-append, length-replicate, length-set, replicate-append-replicate}
use lib.Seq.{drop_at, get_or-set_same, get_or-set_other}
use Rattle.laws.specs.Bytes.{big_endian, number, number_after}
use Rattle.laws.proofs.Tabulate.{get_or_tabulate, is_tabulate}
use Rattle.laws.proofs.Joined.{run_before, run_after}
use Rattle.octets.specs.Put.{pasted}
use Rattle.octets.proofs.Pasting.{pasted_next, set_pasted, length_pasted}
use Rattle.octets.proofs.Numbers.{number_big_endian}
use Rattle.padding.specs.Padding.{zeros, words_at}
use Rattle.padding.specs.Blocks.{followed}
use Rattle.padding.proofs.Padded.{length_parts, length_words, length_followed, followed_parts}

-- the two words of a length
high_word : (x : ℕ) → x < 2 ^ 64 → number (take 4 (big_endian 8 x)) ≡ x / 2 ^ 32
unfolding big_endian
high_word x h =
    let e : x / 256 / 256 / 256 / 256 ≡ x / 2 ^ 32 = omega arith in
    ap (λ (y : ℕ). number (big_endian 4 y)) e ∙ number_big_endian 4 (x / 2 ^ 32) (omega arith)

low_word : (x : ℕ) → number (take 4 (drop 4 (big_endian 8 x))) ≡ x % 2 ^ 32
unfolding big_endian number number_after
low_word x = omega arith

-- zeros from a place on are fewer zeros
drop_zeros : (n k : ℕ) → drop n (replicate {A = ℕ} (n + k) 0) ≡ replicate k 0
drop_zeros n k = rw (← replicate-append-replicate {A = ℕ} n k 0) (drop_at (replicate {A = ℕ} n 0) (replicate k 0) n (length-replicate {A = ℕ} n 0))

module _ (before : ℕ) (whole : before % 64 ≡ 0) (m : List ℕ) (short : length m < 56) where
  -- what stands before the length
  front : List ℕ
  front = (m ++ (0x80 ∷ [])) ++ replicate (zeros (length m)) 0

  few : zeros (length m) ≡ 55 - length m
  unfolding zeros
  few = omega arith

  length_front : length front ≡ 56
  unfolding front
  length_front = simp (length-append, length-replicate) (omega (arith, few))

  -- the parts and the mark in 64 zeros
  marked : (b : List ℕ) → b ≡ pasted (replicate 64 0) 0 (m ++ (0x80 ∷ [])) → b ≡ front ++ replicate 8 0
  unfolding front
  marked b e =
      let l : List ℕ = m ++ (0x80 ∷ []) in
      let long : 0 + length l ≡ length m + 1 = omega (arith, length-append m (0x80 ∷ [])) in
      let all : 64 ≡ length m + 1 + (zeros (length m) + 8) = omega (arith, few) in
      let rest : drop (0 + length l) (replicate {A = ℕ} 64 0) ≡ replicate (zeros (length m)) 0 ++ replicate 8 0 =
      ap (λ (k : ℕ). drop k (replicate {A = ℕ} 64 0)) long
      ∙ ap (λ (k : ℕ). drop (length m + 1) (replicate {A = ℕ} k 0)) all
      ∙ drop_zeros (length m + 1) (zeros (length m) + 8)
      ∙ sym (replicate-append-replicate {A = ℕ} (zeros (length m)) 8 0) in
      e ∙ ap (λ (r : List ℕ). l ++ r) rest ∙ sym (append_assoc l (replicate (zeros (length m)) 0) (replicate 8 0))

  abbrev bits : ℕ
  bits = 8 * (before + length m)

  -- the words with the length put in
  with_length : (w : List ℕ) → bits < 2 ^ 64 → w ≡ words_at (front ++ replicate 8 0) 0
      → set (set w 14 (bits / 2 ^ 32)) 15 (bits % 2 ^ 32) ≡ words_at (followed before m) 0
  unfolding words_at front
  with_length w fits e =
      is_tabulate 0 16 word (set (set w 14 (bits / 2 ^ 32)) 15 (bits % 2 ^ 32)) (length-set (set w 14 (bits / 2 ^ 32)) 15 (bits % 2 ^ 32) ∙ length-set w 14 (bits / 2 ^ 32) ∙ sixteen)
      (λ t p. at t p (dec_lt t 14) (dec_lt t 15))
      ∙ ap (λ (q : List ℕ). words_at q 0) (followed_parts before whole m)
    where
      word : ℕ → ℕ
      word t = number (take 4 (drop (0 + 4 * t) (front ++ big_endian 8 bits)))

      sixteen : length w ≡ 16
      sixteen = ap length e ∙ length_words (front ++ replicate 8 0) 0

      at : (t : ℕ) → t < 16 → Dec (t < 14) → Dec (t < 15) → get_or (set (set w 14 (bits / 2 ^ 32)) 15 (bits % 2 ^ 32)) t 0 ≡ word t
      at t p (yes q) r =
          get_or-set_other (set w 14 (bits / 2 ^ 32)) 15 t (bits % 2 ^ 32) 0 (λ n. omega arith)
          ∙ get_or-set_other w 14 t (bits / 2 ^ 32) 0 (λ n. omega arith)
          ∙ rw e (get_or_tabulate 16 (λ s. number (take 4 (drop (0 + 4 * s) (front ++ replicate 8 0)))) t 0 p)
          ∙ ap number (run_before front (replicate 8 0) 4 (0 + 4 * t) (omega (arith, length_front))
          ∙ sym (run_before front (big_endian 8 bits) 4 (0 + 4 * t) (omega (arith, length_front))))
      at t p (no q) (yes r) =
          let here : t ≡ 14 = omega arith in
          let place : 0 + 4 * t - length front ≡ 0 = omega (arith, length_front) in
          rw here (get_or-set_other (set w 14 (bits / 2 ^ 32)) 15 14 (bits % 2 ^ 32) 0 (λ n. omega arith) ∙ get_or-set_same w 14 (bits / 2 ^ 32) 0 (omega (arith, sixteen)))
          ∙ sym (high_word bits fits)
          ∙ ap number (sym (run_after front (big_endian 8 bits) 4 (0 + 4 * t) (omega (arith, length_front)) ∙ rw place))
      at t p (no q) (no r) =
          let here : t ≡ 15 = omega arith in
          let place : 0 + 4 * t - length front ≡ 4 = omega (arith, length_front) in
          rw here (get_or-set_same (set w 14 (bits / 2 ^ 32)) 15 (bits % 2 ^ 32) 0 (omega (arith, length-set w 14 (bits / 2 ^ 32), sixteen)))
          ∙ sym (low_word bits)
          ∙ ap number (sym (run_after front (big_endian 8 bits) 4 (0 + 4 * t) (omega (arith, length_front)) ∙ rw place))

-- the parts put one after another into 64 zeros
module _ (f h t l : List ℕ) (short : length f + length h + length t + length l < 56) (b₁ b₂ b₃ b₄ : List ℕ) (e₁ : b₁ ≡ pasted (replicate 64 0) 0 f) (e₂ : b₂ ≡ pasted b₁ (length f) h) (e₃ : b₃ ≡ pasted b₂ (length f + length h) t) (e₄ : b₄ ≡ pasted b₃ (length f + length h + length t) l) where
  abbrev size : ℕ
  size = length f + length h + length t + length l

  abbrev message : List ℕ
  message = f ++ (h ++ (t ++ l))

  len : size ≡ length message
  len = sym (length_parts f h t l)

  parts_put : b₄ ≡ pasted (replicate 64 0) 0 message
  parts_put =
      let z : List ℕ = replicate 64 0 in
      let two : b₂ ≡ pasted z 0 (f ++ h) = e₂ ∙ rw e₁ (pasted_next z 0 f h (length f) (omega arith) (omega arith)) in
      let l₂ : length (f ++ h) ≡ length f + length h = length-append f h in
      let three : b₃ ≡ pasted z 0 ((f ++ h) ++ t) = e₃ ∙ rw two (pasted_next z 0 (f ++ h) t (length f + length h) (omega (arith, l₂)) (omega arith)) in
      let l₃ : length ((f ++ h) ++ t) ≡ length f + length h + length t = simp length-append in
      let four : b₄ ≡ pasted z 0 (((f ++ h) ++ t) ++ l) =
      e₄ ∙ rw three (pasted_next z 0 ((f ++ h) ++ t) l (length f + length h + length t) (omega (arith, l₃)) (omega arith)) in
      let same : ((f ++ h) ++ t) ++ l ≡ message = simp append_assoc in
      rw same at four

  -- 64 bytes still, whatever is stored
  pub full : (n x : ℕ) → 64 ≤ length (set b₄ n x)
  full n x =
      omega (arith, length-set b₄ n x ∙ ap length parts_put ∙ length_pasted (replicate 64 0) 0 message (omega (arith, len)))

  -- with the mark and the length
  pub only_laid : (before : ℕ) (w : List ℕ) → before % 64 ≡ 0 → 8 * (before + size) < 2 ^ 64 → w ≡ words_at (set b₄ size 0x80) 0
      → set (set w 14 (8 * (before + size) / 2 ^ 32)) 15 (8 * (before + size) % 2 ^ 32) ≡ words_at (followed before message) 0
  only_laid before w whole fits e =
      let few : length message < 56 = rw len at short in
      let room : size < length b₄ = omega (arith, full 0 0, length-set b₄ 0 0) in
      let mark : set b₄ size 0x80 ≡ pasted (replicate 64 0) 0 (message ++ (0x80 ∷ [])) =
      set_pasted b₄ size 0x80 room ∙ rw parts_put (pasted_next (replicate 64 0) 0 message (0x80 ∷ []) size (omega (arith, len)) (omega arith)) in
      let words : w ≡ words_at (front before whole message few ++ replicate 8 0) 0 =
      e ∙ ap (λ (q : List ℕ). words_at q 0) (marked before whole message few (set b₄ size 0x80) mark) in
      rw len (with_length before whole message few w (rw len at fits) words)

-- it has no other bytes than the first 64
pub only_these : (before : ℕ) (m : List ℕ) (at : ℕ) → before % 64 ≡ 0 → length m < 56 → at + 64 ≤ length (followed before m) → 0 ≡ at
only_these before m at whole short b = omega (arith, length_followed before whole m, few before whole m short)
