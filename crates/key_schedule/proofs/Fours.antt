-- Four words of the key schedule made from the words before them, and the key's own words.
use mathlib.Core.Path.{◌≡◌, refl, sym, ap, ap₂, ◌∙◌}
use mathlib.Core.List.{List, [], ◌∷◌, ◌++◌, append_assoc}
use Prim.Native.Nat.{ℕ, suc, ◌+◌, ◌-◌, ◌*◌, ◌/◌, ◌%◌, ◌≤◌, ◌<◌}
use native.Mathlib.Nat.{add_comm}
use native.Mathlib.Numerals.{add-one}
use native.Mathlib.Omega.{arith}
use lib.Bits.{bit_xor}
use lib.Dec.{lit<}
use lib.ListN.{length, get_or, take, drop, set, length-append, get_or-append}
use lib.Seq.{get_or-take, get_or_at, length-take-le, take_at, take-suc-set, take-add}
use Rattle.laws.specs.Bytes.{big_endian, number, ◌⊕◌}
use Rattle.substitution.specs.Field.{xtimes}
use Rattle.substitution.specs.Box.{SBox}
use Rattle.substitution.proofs.Bytes.{SBox-below}
use Rattle.words.specs.Words.{bytes_of}
use Rattle.words.proofs.Words.{bytes_number, bytes_xor, bytes_of_append, word_at}
use Rattle.key_schedule.specs.Expansion.{word, temp, expanded, SubWord}
use Rattle.key_schedule.specs.Fours.{Fours}
use Rattle.key_schedule.proofs.Words.{word_read, temp_first, temp_middle, temp_later}
use Rattle.key_schedule.proofs.Phases.{later}

module _ (Nk n : ℕ) (key W : List ℕ) (some : 4 ≤ Nk) (long : length W ≡ Nk + n) (sofar : bytes_of W ≡ expanded Nk n key) where
  -- word Nk + n, from what is added
  one_more : (x t : ℕ) → x ≡ bit_xor (get_or W n 0) t → big_endian 4 t ≡ temp Nk (bytes_of W) (n + Nk) → bytes_of (W ++ (x ∷ [])) ≡ expanded Nk (suc n) key
  unfolding expanded bytes_of big_endian
  one_more x t ex et =
      ap (λ (y : ℕ). bytes_of (W ++ (y ∷ []))) ex
      ∙ bytes_of_append W (bit_xor (get_or W n 0) t ∷ [])
      ∙ ap (λ (l : List ℕ). bytes_of W ++ l)
      (bytes_xor (get_or W n 0) t ∙ ap₂ ◌⊕◌ (sym (word_at W n (omega arith))) (et ∙ ap (temp Nk (bytes_of W)) (add_comm n Nk)))
      ∙ ap (λ (v : List ℕ). v ++ (word v n ⊕ temp Nk v (Nk + n))) sofar

module _ (Nk n : ℕ) (key W : List ℕ) (some : 4 ≤ Nk) (long : length W ≡ Nk + n) where
  -- a word after the first of four: the one before it is added
  one_later : (x y : ℕ) → bytes_of (W ++ (x ∷ [])) ≡ expanded Nk (suc n) key → y ≡ bit_xor (get_or W (suc n) 0) x
      → (suc n % Nk ≡ 0 → ⊥) → (suc n % Nk ≡ 4 → ⊥) → bytes_of ((W ++ (x ∷ [])) ++ (y ∷ [])) ≡ expanded Nk (suc (suc n)) key
  one_later x y done ey first fifth =
      let more : length (W ++ (x ∷ [])) ≡ Nk + suc n = length-append W (x ∷ []) ∙ omega arith in
      let last : suc n + Nk - 1 ≡ Nk + n = omega arith in
      let before : word (bytes_of (W ++ (x ∷ []))) (suc n + Nk - 1) ≡ big_endian 4 x =
      rw last (word_at (W ++ (x ∷ [])) (Nk + n) (omega arith) ∙ ap (big_endian 4) (get_or_at W x [] 0 (Nk + n) long)) in
      one_more Nk (suc n) key (W ++ (x ∷ [])) some more done y x
      (ey ∙ ap (λ (o : ℕ). bit_xor o x) (sym (get_or-append W (x ∷ []) 0 (suc n) (omega arith))))
      (temp_later Nk (suc n) (bytes_of (W ++ (x ∷ []))) (big_endian 4 x) (omega arith) before first fifth)

-- Four words, on a list w that has the schedule's first Nk + n
module _ (Nk n : ℕ) (key w : List ℕ) (f : Fours Nk n) (fits : Nk + n + 4 ≤ length w) (sofar : bytes_of (take (Nk + n) w) ≡ expanded Nk n key) where
  abbrev W : List ℕ
  W = take (Nk + n) w

  long : length W ≡ Nk + n
  long = length-take-le (Nk + n) w (omega arith)

  -- a word of the schedule so far, with words after it
  old : (xs : List ℕ) (i : ℕ) → i < Nk + n → get_or (W ++ xs) i 0 ≡ get_or w i 0
  old xs i h = get_or-append W xs 0 i (rw long h) ∙ get_or-take (Nk + n) w i 0 h

  -- word n + j, with the one before it added
  later_word : (xs : List ℕ) (x y j : ℕ) → length xs + 1 ≡ j → 1 ≤ j → j < 4 → bytes_of (W ++ (xs ++ (x ∷ []))) ≡ expanded Nk (n + j) key
      → y ≡ bit_xor (get_or w (n + j) 0) x → bytes_of (W ++ (xs ++ (x ∷ y ∷ []))) ≡ expanded Nk (n + (j + 1)) key
  later_word xs x y j l h k done ey =
      let m : ℕ = n + length xs in
      let here : n + j ≡ suc m = omega arith in
      let next : n + (j + 1) ≡ suc (suc m) = omega arith in
      let longer : length (W ++ xs) ≡ Nk + m = length-append W xs ∙ rw long (omega arith) in
      let some : 4 ≤ Nk = f.some in
      let none = later Nk n f j h k in
      let e : W ++ (xs ++ (x ∷ [])) ≡ (W ++ xs) ++ (x ∷ []) = simp append_assoc in
      let e' : W ++ (xs ++ (x ∷ y ∷ [])) ≡ ((W ++ xs) ++ (x ∷ [])) ++ (y ∷ []) = simp append_assoc in
      ap bytes_of e'
      ∙ one_later Nk m key (W ++ xs) some longer x y (ap bytes_of (sym e) ∙ done ∙ ap (λ (i : ℕ). expanded Nk i key) here)
      (ey ∙ ap (λ (o : ℕ). bit_xor o x) (sym (old xs (n + j) (omega arith)) ∙ ap (λ (i : ℕ). get_or (W ++ xs) i 0) here))
      (rw here at none.0) (rw here at none.1)
      ∙ ap (λ (i : ℕ). expanded Nk i key) (sym next)

  pub expansion_turn : (t a b c d : ℕ) (after : List ℕ)
      → ((v : List ℕ) → word v (n + Nk - 1) ≡ big_endian 4 (get_or w (Nk + n - 1) 0) → big_endian 4 t ≡ temp Nk v (n + Nk))
      → a ≡ bit_xor (get_or w n 0) t → b ≡ bit_xor (get_or w (n + 1) 0) a → c ≡ bit_xor (get_or w (n + 2) 0) b → d ≡ bit_xor (get_or w (n + 3) 0) c
      → after ≡ take (Nk + n) w ++ (a ∷ b ∷ c ∷ d ∷ []) ++ drop (Nk + n + 4) w
      → bytes_of (take (Nk + (n + 4)) after) ≡ expanded Nk (n + 4) key
  expansion_turn t a b c d after et ea eb ec ed eafter =
      let some : 4 ≤ Nk = f.some in
      let last : n + Nk - 1 ≡ Nk + n - 1 = omega arith in
      let h : Nk + n - 1 < Nk + n = omega arith in
      let before : word (bytes_of W) (n + Nk - 1) ≡ big_endian 4 (get_or w (Nk + n - 1) 0) =
      rw last (word_at W (Nk + n - 1) (rw long h) ∙ ap (big_endian 4) (get_or-take (Nk + n) w (Nk + n - 1) 0 h)) in
      let first : bytes_of (W ++ (a ∷ [])) ≡ expanded Nk (n + 1) key =
      one_more Nk n key W some long sofar a t (ea ∙ ap (λ (o : ℕ). bit_xor o t) (sym (get_or-take (Nk + n) w n 0 (omega arith)))) (et (bytes_of W) before)
      ∙ ap (λ (i : ℕ). expanded Nk i key) (sym (add-one n)) in
      let second = later_word [] a b 1 refl (omega arith) (omega arith) first eb in
      let third = later_word (a ∷ []) b c 2 refl (omega arith) (omega arith) second ec in
      let fourth : bytes_of (W ++ (a ∷ b ∷ c ∷ d ∷ [])) ≡ expanded Nk (n + 4) key =
      later_word (a ∷ b ∷ []) c d 3 refl (omega arith) (omega arith) third ed in
      let whole : length (W ++ (a ∷ b ∷ c ∷ d ∷ [])) ≡ Nk + (n + 4) = length-append W (a ∷ b ∷ c ∷ d ∷ []) ∙ rw long (omega arith) in
      ap bytes_of (ap (take (Nk + (n + 4))) eafter ∙ take_at (W ++ (a ∷ b ∷ c ∷ d ∷ [])) (drop (Nk + n + 4) w) (Nk + (n + 4)) whole) ∙ fourth

  -- the fourth word where it stands
  pub last_stored : (a b c d : ℕ) (after : List ℕ) → after ≡ take (Nk + n) w ++ (a ∷ b ∷ c ∷ d ∷ []) ++ drop (Nk + n + 4) w
      → d ≡ get_or after (Nk + (n + 4) - 1) 0
  last_stored a b c d after eafter =
      let rest : List ℕ = drop (Nk + n + 4) w in
      let e : W ++ (a ∷ b ∷ c ∷ d ∷ []) ++ rest ≡ (W ++ (a ∷ b ∷ c ∷ [])) ++ d ∷ rest = simp append_assoc in
      let place : length (W ++ (a ∷ b ∷ c ∷ [])) ≡ Nk + (n + 4) - 1 = length-append W (a ∷ b ∷ c ∷ []) ∙ rw long (omega arith) in
      sym (ap (λ (l : List ℕ). get_or l (Nk + (n + 4) - 1) 0) (eafter ∙ e) ∙ get_or_at (W ++ (a ∷ b ∷ c ∷ [])) d rest 0 (Nk + (n + 4) - 1) place)

-- ---- what is added to the first of four, from the bytes p of the word before it

module _ (Nk n : ℕ) (w p : List ℕ) (previous : ℕ) (f : Fours Nk n) (before : word w (n + Nk - 1) ≡ big_endian 4 previous) (ep : p ≡ big_endian 4 previous) where
  some_words : 1 ≤ Nk
  some_words = let h : 4 ≤ Nk = f.some in omega arith

  looked_up : (a b c d : ℕ) → big_endian 4 (number (SBox a ∷ SBox b ∷ SBox c ∷ SBox d ∷ [])) ≡ SBox a ∷ SBox b ∷ SBox c ∷ SBox d ∷ []
  looked_up a b c d = bytes_number (SBox a) (SBox b) (SBox c) (SBox d) (SBox-below a) (SBox-below b) (SBox-below c) (SBox-below d)

  pub added_first : (constant s k : ℕ) → n % Nk ≡ 0 → constant < 256 → constant ≡ xtimes (n / Nk) 1
      → s ≡ number (SBox (get_or p 1 0) ∷ SBox (get_or p 2 0) ∷ SBox (get_or p 3 0) ∷ SBox (get_or p 0 0) ∷ [])
      → k ≡ number (constant ∷ 0 ∷ 0 ∷ 0 ∷ [])
      → big_endian 4 (bit_xor s k) ≡ temp Nk w (n + Nk)
  unfolding big_endian
  added_first constant s k z small ec es ek =
      let four : big_endian 4 previous ≡ get_or p 0 0 ∷ get_or p 1 0 ∷ get_or p 2 0 ∷ get_or p 3 0 ∷ [] = rw ep in
      bytes_xor s k
      ∙ ap₂ ◌⊕◌ (ap (big_endian 4) es ∙ looked_up (get_or p 1 0) (get_or p 2 0) (get_or p 3 0) (get_or p 0 0))
      (ap (big_endian 4) ek ∙ bytes_number constant 0 0 0 small (lit< tt) (lit< tt) (lit< tt))
      ∙ temp_first Nk n w (big_endian 4 previous) some_words before (get_or p 0 0) (get_or p 1 0) (get_or p 2 0) (get_or p 3 0) constant four z ec

  pub added_fifth : (s : ℕ) → 6 < Nk → n % Nk ≡ 4 → s ≡ number (SBox (get_or p 0 0) ∷ SBox (get_or p 1 0) ∷ SBox (get_or p 2 0) ∷ SBox (get_or p 3 0) ∷ [])
      → big_endian 4 s ≡ temp Nk w (n + Nk)
  unfolding big_endian SubWord
  added_fifth s long z es =
      let four : SBox (get_or p 0 0) ∷ SBox (get_or p 1 0) ∷ SBox (get_or p 2 0) ∷ SBox (get_or p 3 0) ∷ [] ≡ SubWord (big_endian 4 previous) = rw ep in
      ap (big_endian 4) es
      ∙ looked_up (get_or p 0 0) (get_or p 1 0) (get_or p 2 0) (get_or p 3 0)
      ∙ four
      ∙ temp_middle Nk n w (big_endian 4 previous) some_words before long z

-- ---- the key's own words

pub key_turn : (key w : List ℕ) (k x : ℕ) → 4 * k + 4 ≤ length key → k < length w → ((i : ℕ) → get_or key i 0 < 256)
    → bytes_of (take k w) ≡ take (4 * k) key
    → x ≡ number (get_or key (4 * k) 0 ∷ get_or key (4 * k + 1) 0 ∷ get_or key (4 * k + 2) 0 ∷ get_or key (4 * k + 3) 0 ∷ [])
    → bytes_of (take (k + 1) (set w k x)) ≡ take (4 * (k + 1)) key
unfolding bytes_of big_endian
key_turn key w k x fits h bytes sofar ex =
    let next : 4 * (k + 1) ≡ 4 * k + 4 = omega arith in
    rw (add-one, take-suc-set w k x h)
    (bytes_of_append (take k w) (x ∷ [])
    ∙ ap₂ ◌++◌ sofar
    (ap (big_endian 4) ex
    ∙ bytes_number (get_or key (4 * k) 0) (get_or key (4 * k + 1) 0) (get_or key (4 * k + 2) 0) (get_or key (4 * k + 3) 0) (bytes (4 * k)) (bytes (4 * k + 1))
    (bytes (4 * k + 2)) (bytes (4 * k + 3))
    ∙ word_read key (4 * k) fits)
    ∙ sym (take-add (4 * k) 4 key)
    ∙ ap (λ (i : ℕ). take i key) (sym next ∙ ap (λ (i : ℕ). 4 * i) (add-one k)))
