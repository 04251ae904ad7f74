-- A round on a state of four words: what each step makes of them.
use mathlib.Core.Path.{◌≡◌, refl, sym, ap, ◌∙◌}
use mathlib.Core.List.{List, [], ◌∷◌, ◌++◌}
use Prim.Native.Nat.{ℕ, ◌+◌, ◌*◌, ◌≤◌, ◌<◌}
use native.Mathlib.Nat.{add-zero}
use native.Mathlib.Omega.{arith}
use lib.Bits.{bit_xor}
use lib.Dec.{lit<}
use lib.ListN.{length, get_or}
use Rattle.laws.specs.Bytes.{tabulate, big_endian, number}
use Rattle.laws.proofs.Elements.{all_elements}
use Rattle.words.specs.Words.{bytes_of}
use Rattle.words.proofs.Words.{bytes_number}
use Rattle.substitution.specs.Box.{SBox, InvSBox}
use Rattle.substitution.proofs.Bytes.{SBox-below, InvSBox-below}
use Rattle.columns.specs.Columns.{mixed_column, mixed_word}
use Rattle.columns.proofs.Columns.{word_mixed, mixed_additive}
use Rattle.inverse_keys.specs.Keys.{InverseKeys}
use Rattle.steps.specs.Steps.{state_of, mixed, SubBytes, ShiftRows, MixColumns, InvSubBytes, InvShiftRows, InvMixColumns, AddRoundKey}
use Rattle.steps.proofs.State.{keyed}

-- ---- the columns mixed

module _ (a₀ a₁ a₂ a₃ : ℕ) (h₀ : a₀ < 256) (h₁ : a₁ < 256) (h₂ : a₂ < 256) (h₃ : a₃ < 256) where
  -- the four bytes of a word, mixed
  abbrev column : ℕ → List ℕ
  column w = mixed_column a₀ a₁ a₂ a₃ (get_or (big_endian 4 w) 0 0) (get_or (big_endian 4 w) 1 0) (get_or (big_endian 4 w) 2 0) (get_or (big_endian 4 w) 3 0)

  by_columns : (a b c d : ℕ) → mixed a₀ a₁ a₂ a₃ (bytes_of (a ∷ b ∷ c ∷ d ∷ [])) ≡ column a ++ (column b ++ (column c ++ (column d ++ [])))
  unfolding mixed state_of tabulate bytes_of big_endian
  by_columns a b c d = refl

  pub words_mixed : (a b c d : ℕ)
      → mixed a₀ a₁ a₂ a₃ (bytes_of (a ∷ b ∷ c ∷ d ∷ []))
      ≡ bytes_of (mixed_word a₀ a₁ a₂ a₃ a ∷ mixed_word a₀ a₁ a₂ a₃ b ∷ mixed_word a₀ a₁ a₂ a₃ c ∷ mixed_word a₀ a₁ a₂ a₃ d ∷ [])
  unfolding bytes_of
  words_mixed a b c d =
      let each = word_mixed a₀ a₁ a₂ a₃ h₀ h₁ h₂ h₃ in
      by_columns a b c d ∙ sym (rw (each a, each b, each c, each d))

-- ---- the bytes substituted and the rows shifted

-- four bytes through f, as a word
abbrev pub substituted : (ℕ → ℕ) → ℕ → ℕ → ℕ → ℕ → ℕ
substituted f a b c d = number (f a ∷ f b ∷ f c ∷ f d ∷ [])

four : (f : ℕ → ℕ) → ((x : ℕ) → f x < 256) → (a b c d : ℕ) → big_endian 4 (substituted f a b c d) ≡ f a ∷ f b ∷ f c ∷ f d ∷ []
four f h a b c d = bytes_number (f a) (f b) (f c) (f d) (h a) (h b) (h c) (h d)

module _ (s : List ℕ) (n : length s ≡ 16) where
  abbrev byte : ℕ → ℕ
  byte i = get_or s i 0

  rows_shifted : ShiftRows (SubBytes s)
      ≡ bytes_of
      (substituted SBox (byte 0) (byte 5) (byte 10) (byte 15)
      ∷ substituted SBox (byte 4) (byte 9) (byte 14) (byte 3)
      ∷ substituted SBox (byte 8) (byte 13) (byte 2) (byte 7)
      ∷ substituted SBox (byte 12) (byte 1) (byte 6) (byte 11)
      ∷ [])
  unfolding ShiftRows SubBytes state_of tabulate bytes_of
  rows_shifted =
      ap (λ (l : List ℕ). ShiftRows (SubBytes l)) (all_elements 0 16 s n)
      ∙ sym
      (rw (
        four SBox SBox-below (byte 0) (byte 5) (byte 10) (byte 15),
        four SBox SBox-below (byte 4) (byte 9) (byte 14) (byte 3),
        four SBox SBox-below (byte 8) (byte 13) (byte 2) (byte 7),
        four SBox SBox-below (byte 12) (byte 1) (byte 6) (byte 11),
      ))

  -- §5.1: a full round
  pub round_columns : (ws : List ℕ) (round : ℕ) → 4 * round + 4 ≤ length ws
      → AddRoundKey (bytes_of ws) round (MixColumns (ShiftRows (SubBytes s)))
      ≡ bytes_of
      (bit_xor (mixed_word 0x02 0x01 0x01 0x03 (substituted SBox (byte 0) (byte 5) (byte 10) (byte 15))) (get_or ws (4 * round) 0)
      ∷ bit_xor (mixed_word 0x02 0x01 0x01 0x03 (substituted SBox (byte 4) (byte 9) (byte 14) (byte 3))) (get_or ws (4 * round + 1) 0)
      ∷ bit_xor (mixed_word 0x02 0x01 0x01 0x03 (substituted SBox (byte 8) (byte 13) (byte 2) (byte 7))) (get_or ws (4 * round + 2) 0)
      ∷ bit_xor (mixed_word 0x02 0x01 0x01 0x03 (substituted SBox (byte 12) (byte 1) (byte 6) (byte 11))) (get_or ws (4 * round + 3) 0)
      ∷ [])
  unfolding MixColumns
  round_columns ws round fits =
      ap (AddRoundKey (bytes_of ws) round) (ap MixColumns rows_shifted ∙ words_mixed 0x02 0x01 0x01 0x03 (lit< tt) (lit< tt) (lit< tt) (lit< tt) _ _ _ _)
      ∙ keyed ws round _ _ _ _ fits

  rows_shifted_back : InvSubBytes (InvShiftRows s)
      ≡ bytes_of
      (substituted InvSBox (byte 0) (byte 13) (byte 10) (byte 7)
      ∷ substituted InvSBox (byte 4) (byte 1) (byte 14) (byte 11)
      ∷ substituted InvSBox (byte 8) (byte 5) (byte 2) (byte 15)
      ∷ substituted InvSBox (byte 12) (byte 9) (byte 6) (byte 3)
      ∷ [])
  unfolding InvShiftRows InvSubBytes state_of tabulate bytes_of
  rows_shifted_back =
      sym
      (rw (
        four InvSBox InvSBox-below (byte 0) (byte 13) (byte 10) (byte 7),
        four InvSBox InvSBox-below (byte 4) (byte 1) (byte 14) (byte 11),
        four InvSBox InvSBox-below (byte 8) (byte 5) (byte 2) (byte 15),
        four InvSBox InvSBox-below (byte 12) (byte 9) (byte 6) (byte 3),
      ))

  -- §5.3.5: a full inverse round, where the round key is added after the columns are mixed back
  module _ (Nr round : ℕ) (w keys : List ℕ) (k : InverseKeys Nr w keys) (inner : 1 ≤ round) (few : round < Nr) (fits : 4 * round + 4 ≤ length keys) where
    -- a column of the inverse round, by the word of its inverse substitutes
    later : (x i : ℕ) → i < 4
        → mixed_word 0x0e 0x09 0x0d 0x0b (bit_xor x (get_or w (4 * round + i) 0)) ≡ bit_xor (mixed_word 0x0e 0x09 0x0d 0x0b x) (get_or keys (4 * round + i) 0)
    later x i h =
        mixed_additive 0x0e 0x09 0x0d 0x0b (lit< tt) (lit< tt) (lit< tt) (lit< tt) x (get_or w (4 * round + i) 0)
        ∙ ap (bit_xor (mixed_word 0x0e 0x09 0x0d 0x0b x)) (sym (k.inner (4 * round + i) (omega arith) (omega arith)))

    first : (x : ℕ) → mixed_word 0x0e 0x09 0x0d 0x0b (bit_xor x (get_or w (4 * round) 0)) ≡ bit_xor (mixed_word 0x0e 0x09 0x0d 0x0b x) (get_or keys (4 * round) 0)
    first x = rw add-zero at (later x 0 (lit< tt))

    pub inv_round_columns : InvMixColumns (AddRoundKey (bytes_of w) round (InvSubBytes (InvShiftRows s)))
        ≡ bytes_of
        (bit_xor (mixed_word 0x0e 0x09 0x0d 0x0b (substituted InvSBox (byte 0) (byte 13) (byte 10) (byte 7))) (get_or keys (4 * round) 0)
        ∷ bit_xor (mixed_word 0x0e 0x09 0x0d 0x0b (substituted InvSBox (byte 4) (byte 1) (byte 14) (byte 11))) (get_or keys (4 * round + 1) 0)
        ∷ bit_xor (mixed_word 0x0e 0x09 0x0d 0x0b (substituted InvSBox (byte 8) (byte 5) (byte 2) (byte 15))) (get_or keys (4 * round + 2) 0)
        ∷ bit_xor (mixed_word 0x0e 0x09 0x0d 0x0b (substituted InvSBox (byte 12) (byte 9) (byte 6) (byte 3))) (get_or keys (4 * round + 3) 0)
        ∷ [])
    unfolding InvMixColumns
    inv_round_columns =
        let long : length keys ≡ length w = k.long in
        ap InvMixColumns (ap (AddRoundKey (bytes_of w) round) rows_shifted_back ∙ keyed w round _ _ _ _ (omega arith))
        ∙ words_mixed 0x0e 0x09 0x0d 0x0b (lit< tt) (lit< tt) (lit< tt) (lit< tt) _ _ _ _
        ∙ rw (
          first (substituted InvSBox (byte 0) (byte 13) (byte 10) (byte 7)),
          later (substituted InvSBox (byte 4) (byte 1) (byte 14) (byte 11)) 1 (lit< tt),
          later (substituted InvSBox (byte 8) (byte 5) (byte 2) (byte 15)) 2 (lit< tt),
          later (substituted InvSBox (byte 12) (byte 9) (byte 6) (byte 3)) 3 (lit< tt),
        )
