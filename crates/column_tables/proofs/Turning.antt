-- A column mixed is the sum of its bytes' columns mixed, each turned to its place: at the powers of 2, and so everywhere. One law; MixColumns and
-- InvMixColumns are its two uses.
use mathlib.Core.Path.{◌≡◌, refl, ap}
use mathlib.Core.List.{List, [], ◌∷◌}
use Prim.Native.Nat.{ℕ, ◌^◌, ◌<◌}
use native.Mathlib.Omega.{arith}
use lib.Bits.{bit_xor}
use lib.Dec.{T, lit<}
use lib.ListN.{get_or}
use Rattle.laws.specs.Bytes.{big_endian, number, number_after}
use Rattle.laws.proofs.Table.{same_below}
use Rattle.laws.proofs.Xor.{Additive}
use Rattle.words.proofs.Words.{number_joined, bytes_number, byte₀, byte₁, byte₂, byte₃, B₀, B₁, B₂, B₃}
use Rattle.substitution.specs.Field.{xtime, xtimes, bit, product_below, ◌•◌}
use Rattle.columns.specs.Columns.{mixed_byte, mixed_word}
use Rattle.columns.specs.Turned.{turned}
use Rattle.columns.proofs.Columns.{after, both, packed, same, mixed_additive, turned_additive, words_agree}
use Rattle.column_tables.specs.Tables.{first_mixed}

nothing : Additive (λ x. 0)
nothing x y = refl

module _ (a₀ a₁ a₂ a₃ : ℕ) (h₀ : a₀ < 256) (h₁ : a₁ < 256) (h₂ : a₂ < 256) (h₃ : a₃ < 256) where
  abbrev F : ℕ → ℕ
  F = first_mixed a₀ a₁ a₂ a₃

  F-additive : Additive F
  unfolding first_mixed
  F-additive =
      after (mixed_word a₀ a₁ a₂ a₃) (λ b. number (b ∷ 0 ∷ 0 ∷ 0 ∷ [])) (mixed_additive a₀ a₁ a₂ a₃ h₀ h₁ h₂ h₃)
      (packed (λ b. b) (λ b. 0) (λ b. 0) (λ b. 0) same nothing nothing nothing (λ b. lit< tt) (λ b. lit< tt) (λ b. lit< tt))

  -- the four bytes of w by table
  unfoldable pub tabled : ℕ → ℕ
  tabled w = bit_xor (bit_xor (bit_xor (F (byte₀ w)) (turned 24 (F (byte₁ w)))) (turned 16 (F (byte₂ w)))) (turned 8 (F (byte₃ w)))

  place : (k : ℕ) (b : ℕ → ℕ) → Additive b → Additive (λ w. turned k (F (b w)))
  place k b B = after (turned k) (λ w. F (b w)) (turned_additive k) (after F b F-additive B)

  tabled_additive : Additive tabled
  unfolding tabled
  tabled_additive =
      both (λ w. bit_xor (bit_xor (F (byte₀ w)) (turned 24 (F (byte₁ w)))) (turned 16 (F (byte₂ w)))) (λ w. turned 8 (F (byte₃ w)))
      (both (λ w. bit_xor (F (byte₀ w)) (turned 24 (F (byte₁ w)))) (λ w. turned 16 (F (byte₂ w)))
      (both (λ w. F (byte₀ w)) (λ w. turned 24 (F (byte₁ w))) (after F byte₀ F-additive B₀) (place 24 byte₁ B₁))
      (place 16 byte₂ B₂))
      (place 8 byte₃ B₃)

  module _ (t : T (same_below (λ i. tabled (2 ^ i) ∷ []) (λ i. mixed_word a₀ a₁ a₂ a₃ (2 ^ i) ∷ []) 32)) where
    pub column_tabled : (w x y z : ℕ) → w < 256 → x < 256 → y < 256 → z < 256
        → bit_xor (bit_xor (bit_xor (F w) (turned 24 (F x))) (turned 16 (F y))) (turned 8 (F z)) ≡ mixed_word a₀ a₁ a₂ a₃ (number (w ∷ x ∷ y ∷ z ∷ []))
    unfolding tabled big_endian
    column_tabled w x y z hw hx hy hz =
        let n : ℕ = number (w ∷ x ∷ y ∷ z ∷ []) in
        let four : big_endian 4 n ≡ w ∷ x ∷ y ∷ z ∷ [] = bytes_number w x y z hw hx hy hz in
        let e₀ : byte₀ n ≡ w = ap (λ (l : List ℕ). get_or l 0 0) four in
        let e₁ : byte₁ n ≡ x = ap (λ (l : List ℕ). get_or l 1 0) four in
        let e₂ : byte₂ n ≡ y = ap (λ (l : List ℕ). get_or l 2 0) four in
        let e₃ : byte₃ n ≡ z = ap (λ (l : List ℕ). get_or l 3 0) four in
        let small : n < 2 ^ 32 = rw (number_joined w x y z) (omega arith) in
        rw (e₀, e₁, e₂, e₃) at (words_agree tabled (mixed_word a₀ a₁ a₂ a₃) tabled_additive (mixed_additive a₀ a₁ a₂ a₃ h₀ h₁ h₂ h₃) t n small)

pub column_mixed : (w x y z : ℕ) → w < 256 → x < 256 → y < 256 → z < 256
    → (let f = first_mixed 0x02 0x01 0x01 0x03 in bit_xor (bit_xor (bit_xor (f w) (turned 24 (f x))) (turned 16 (f y))) (turned 8 (f z)))
    ≡ mixed_word 0x02 0x01 0x01 0x03 (number (w ∷ x ∷ y ∷ z ∷ []))
unfolding tabled first_mixed mixed_word mixed_byte big_endian number number_after ◌•◌ product_below bit xtimes xtime
column_mixed = column_tabled 0x02 0x01 0x01 0x03 (lit< tt) (lit< tt) (lit< tt) (lit< tt) tt

pub column_unmixed : (w x y z : ℕ) → w < 256 → x < 256 → y < 256 → z < 256
    → (let f = first_mixed 0x0e 0x09 0x0d 0x0b in bit_xor (bit_xor (bit_xor (f w) (turned 24 (f x))) (turned 16 (f y))) (turned 8 (f z)))
    ≡ mixed_word 0x0e 0x09 0x0d 0x0b (number (w ∷ x ∷ y ∷ z ∷ []))
unfolding tabled first_mixed mixed_word mixed_byte big_endian number number_after ◌•◌ product_below bit xtimes xtime
column_unmixed = column_tabled 0x0e 0x09 0x0d 0x0b (lit< tt) (lit< tt) (lit< tt) (lit< tt) tt
