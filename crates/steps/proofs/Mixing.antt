-- Mixing a column with the coefficients b undoes mixing it with a, as soon as it does so for columns with one power of 2 in one
-- row: mixing respects XOR, and a column is the XOR of its four bytes. One law; MixColumns and InvMixColumns are its two uses.
--
use mathlib.Core.Path.{◌≡◌, refl, sym, ap, ap₂, ◌∙◌}
use mathlib.Core.List.{List, [], ◌∷◌}
use Prim.Native.Nat.{ℕ, zero, suc, ◌+◌, ◌*◌, ◌/◌, ◌%◌, ◌^◌, ◌<◌}
use native.Mathlib.Omega.{arith}
use lib.Bits.{bit_xor, xor_zero_r}
use lib.Dec.{T, lit<}
use lib.ListN.{length, get_or}
use Rattle.laws.proofs.Table.{same_below, below}
use Rattle.laws.proofs.Tabulate.{get_or_tabulate, tabulate_ext, tabulate_get_or}
use Rattle.laws.proofs.Xor.{Additive, additive_agree}
use Rattle.substitution.specs.Field.{xtime, xtimes, bit, product_below, ◌•◌}
use Rattle.columns.specs.Columns.{mixed_byte}
use Rattle.columns.proofs.Columns.{mixed_byte_xor}
use Rattle.steps.specs.Steps.{at, state_of, mixed, MixColumns, InvMixColumns}

at_state : (f : ℕ → ℕ → ℕ) (r c : ℕ) → r < 4 → c < 4 → at (state_of f) r c ≡ f r c
unfolding state_of
at_state f r c h k =
    let row : (r + 4 * c) % 4 ≡ r = omega arith in
    let column : (r + 4 * c) / 4 ≡ c = omega arith in
    get_or_tabulate 16 (λ i. f (i % 4) (i / 4)) (r + 4 * c) 0 (omega arith) ∙ ap₂ f row column

module _ (a₀ a₁ a₂ a₃ : ℕ) (s : List ℕ) where
  -- the byte in row r and column c of a mixed state
  abbrev mixed_at : ℕ → ℕ → ℕ
  mixed_at r c = mixed_byte a₀ a₁ a₂ a₃ (at s r c) (at s ((r + 1) % 4) c) (at s ((r + 2) % 4) c) (at s ((r + 3) % 4) c)

  mixed_state : mixed a₀ a₁ a₂ a₃ s ≡ state_of mixed_at
  unfolding mixed mixed_byte
  mixed_state = refl

  at_mixed : (r c : ℕ) → r < 4 → c < 4 → at (mixed a₀ a₁ a₂ a₃ s) r c ≡ mixed_at r c
  at_mixed r c h k = ap (λ (m : List ℕ). at m r c) mixed_state ∙ at_state mixed_at r c h k

module _ (a₀ a₁ a₂ a₃ b₀ b₁ b₂ b₃ : ℕ) where
  -- a column mixed with a and then with b: the byte in the row of x₀
  unfoldable pub twice : ℕ → ℕ → ℕ → ℕ → ℕ
  twice x₀ x₁ x₂ x₃ =
      mixed_byte b₀ b₁ b₂ b₃ (mixed_byte a₀ a₁ a₂ a₃ x₀ x₁ x₂ x₃) (mixed_byte a₀ a₁ a₂ a₃ x₁ x₂ x₃ x₀)
      (mixed_byte a₀ a₁ a₂ a₃ x₂ x₃ x₀ x₁) (mixed_byte a₀ a₁ a₂ a₃ x₃ x₀ x₁ x₂)

  twice_xor : (x₀ x₁ x₂ x₃ y₀ y₁ y₂ y₃ : ℕ)
      → twice (bit_xor x₀ y₀) (bit_xor x₁ y₁) (bit_xor x₂ y₂) (bit_xor x₃ y₃) ≡ bit_xor (twice x₀ x₁ x₂ x₃) (twice y₀ y₁ y₂ y₃)
  unfolding twice
  twice_xor x₀ x₁ x₂ x₃ y₀ y₁ y₂ y₃ =
      rw (
        mixed_byte_xor a₀ a₁ a₂ a₃ x₀ x₁ x₂ x₃ y₀ y₁ y₂ y₃,
        mixed_byte_xor a₀ a₁ a₂ a₃ x₁ x₂ x₃ x₀ y₁ y₂ y₃ y₀,
        mixed_byte_xor a₀ a₁ a₂ a₃ x₂ x₃ x₀ x₁ y₂ y₃ y₀ y₁,
        mixed_byte_xor a₀ a₁ a₂ a₃ x₃ x₀ x₁ x₂ y₃ y₀ y₁ y₂,
      )
      (mixed_byte_xor b₀ b₁ b₂ b₃ (mixed_byte a₀ a₁ a₂ a₃ x₀ x₁ x₂ x₃) (mixed_byte a₀ a₁ a₂ a₃ x₁ x₂ x₃ x₀)
      (mixed_byte a₀ a₁ a₂ a₃ x₂ x₃ x₀ x₁) (mixed_byte a₀ a₁ a₂ a₃ x₃ x₀ x₁ x₂) (mixed_byte a₀ a₁ a₂ a₃ y₀ y₁ y₂ y₃)
      (mixed_byte a₀ a₁ a₂ a₃ y₁ y₂ y₃ y₀) (mixed_byte a₀ a₁ a₂ a₃ y₂ y₃ y₀ y₁) (mixed_byte a₀ a₁ a₂ a₃ y₃ y₀ y₁ y₂))

  -- what is tested: a power of 2 in its own row comes back, and one in another row leaves nothing
  unfoldable pub found : ℕ → List ℕ
  found i = twice (2 ^ i) 0 0 0 ∷ twice 0 (2 ^ i) 0 0 ∷ twice 0 0 (2 ^ i) 0 ∷ twice 0 0 0 (2 ^ i) ∷ []

  unfoldable pub wanted : ℕ → List ℕ
  wanted i = 2 ^ i ∷ 0 ∷ 0 ∷ 0 ∷ []

  module _ (t : T (same_below found wanted 8)) where
    row : (k i : ℕ) → i < 8 → get_or (found i) k 0 ≡ get_or (wanted i) k 0
    row k i h = ap (λ (l : List ℕ). get_or l k 0) (below found wanted 8 t i h)

    nothing : Additive (λ x. 0)
    nothing x y = refl

    own_row : (x : ℕ) → x < 256 → twice x 0 0 0 ≡ x
    unfolding found wanted
    own_row = additive_agree (λ x. twice x 0 0 0) (λ x. x) (λ x y. twice_xor x 0 0 0 y 0 0 0) (λ x y. refl) 8 (row 0)

    next_row : (x : ℕ) → x < 256 → twice 0 x 0 0 ≡ 0
    unfolding found wanted
    next_row = additive_agree (λ x. twice 0 x 0 0) (λ x. 0) (λ x y. twice_xor 0 x 0 0 0 y 0 0) nothing 8 (row 1)

    second_row : (x : ℕ) → x < 256 → twice 0 0 x 0 ≡ 0
    unfolding found wanted
    second_row = additive_agree (λ x. twice 0 0 x 0) (λ x. 0) (λ x y. twice_xor 0 0 x 0 0 0 y 0) nothing 8 (row 2)

    third_row : (x : ℕ) → x < 256 → twice 0 0 0 x ≡ 0
    unfolding found wanted
    third_row = additive_agree (λ x. twice 0 0 0 x) (λ x. 0) (λ x y. twice_xor 0 0 0 x 0 0 0 y) nothing 8 (row 3)

    column_undone : (x₀ x₁ x₂ x₃ : ℕ) → x₀ < 256 → x₁ < 256 → x₂ < 256 → x₃ < 256 → twice x₀ x₁ x₂ x₃ ≡ x₀
    column_undone x₀ x₁ x₂ x₃ h₀ h₁ h₂ h₃ =
        ap (λ (x : ℕ). twice x x₁ x₂ x₃) (sym (xor_zero_r x₀))
        ∙ twice_xor x₀ 0 0 0 0 x₁ x₂ x₃
        ∙ ap₂ bit_xor (own_row x₀ h₀) rest
        ∙ xor_zero_r x₀
      where
        last : twice 0 0 x₂ x₃ ≡ 0
        last = ap (λ (x : ℕ). twice 0 0 x x₃) (sym (xor_zero_r x₂)) ∙ twice_xor 0 0 x₂ 0 0 0 0 x₃ ∙ ap₂ bit_xor (second_row x₂ h₂) (third_row x₃ h₃)

        rest : twice 0 x₁ x₂ x₃ ≡ 0
        rest = ap (λ (x : ℕ). twice 0 x x₂ x₃) (sym (xor_zero_r x₁)) ∙ twice_xor 0 x₁ 0 0 0 0 x₂ x₃ ∙ ap₂ bit_xor (next_row x₁ h₁) last

    module _ (s : List ℕ) (bytes : (i : ℕ) → get_or s i 0 < 256) where
      -- the bytes in column c and the rows p, q, r, u mixed again
      mixed_again : ℕ → ℕ → ℕ → ℕ → ℕ → ℕ
      mixed_again c p q r u =
          mixed_byte b₀ b₁ b₂ b₃ (at (mixed a₀ a₁ a₂ a₃ s) p c) (at (mixed a₀ a₁ a₂ a₃ s) q c) (at (mixed a₀ a₁ a₂ a₃ s) r c)
          (at (mixed a₀ a₁ a₂ a₃ s) u c)

      -- where the rows follow one another, the first one's byte is back
      rows_undone : (c p q r u : ℕ) → c < 4 → p < 4 → q < 4 → r < 4 → u < 4
          → mixed_byte b₀ b₁ b₂ b₃ (mixed_at a₀ a₁ a₂ a₃ s p c) (mixed_at a₀ a₁ a₂ a₃ s q c) (mixed_at a₀ a₁ a₂ a₃ s r c) (mixed_at a₀ a₁ a₂ a₃ s u c)
          ≡ twice (at s p c) (at s q c) (at s r c) (at s u c)
          → mixed_again c p q r u ≡ at s p c
      unfolding mixed_again
      rows_undone c p q r u k hp hq hr hu e =
          rw (at_mixed a₀ a₁ a₂ a₃ s p c hp k, at_mixed a₀ a₁ a₂ a₃ s q c hq k, at_mixed a₀ a₁ a₂ a₃ s r c hr k, at_mixed a₀ a₁ a₂ a₃ s u c hu k)
          (e
          ∙ column_undone (at s p c) (at s q c) (at s r c) (at s u c) (bytes (p + 4 * c)) (bytes (q + 4 * c)) (bytes (r + 4 * c))
          (bytes (u + 4 * c)))

      byte_undone : (r c : ℕ) → r < 4 → c < 4 → mixed_at b₀ b₁ b₂ b₃ (mixed a₀ a₁ a₂ a₃ s) r c ≡ at s r c
      unfolding mixed_again twice
      byte_undone zero c h k = rows_undone c 0 1 2 3 k (lit< tt) (lit< tt) (lit< tt) (lit< tt) refl
      byte_undone (suc zero) c h k = rows_undone c 1 2 3 0 k (lit< tt) (lit< tt) (lit< tt) (lit< tt) refl
      byte_undone (suc (suc zero)) c h k = rows_undone c 2 3 0 1 k (lit< tt) (lit< tt) (lit< tt) (lit< tt) refl
      byte_undone (suc (suc (suc zero))) c h k = rows_undone c 3 0 1 2 k (lit< tt) (lit< tt) (lit< tt) (lit< tt) refl
      byte_undone (suc (suc (suc (suc r)))) c h k = absurd (omega arith)

      pub mixed_undone : length s ≡ 16 → mixed b₀ b₁ b₂ b₃ (mixed a₀ a₁ a₂ a₃ s) ≡ s
      unfolding state_of
      mixed_undone n =
          mixed_state b₀ b₁ b₂ b₃ (mixed a₀ a₁ a₂ a₃ s)
          ∙ tabulate_ext 16 (λ i. mixed_at b₀ b₁ b₂ b₃ (mixed a₀ a₁ a₂ a₃ s) (i % 4) (i / 4)) (λ i. get_or s i 0)
          (λ i h.
          let place : i % 4 + 4 * (i / 4) ≡ i = omega arith in
          byte_undone (i % 4) (i / 4) (omega arith) (omega arith) ∙ ap (λ (k : ℕ). get_or s k 0) place)
          ∙ (rw n at (tabulate_get_or 0 s))

pub InvMixColumns-MixColumns : (s : List ℕ) → length s ≡ 16 → ((i : ℕ) → get_or s i 0 < 256) → InvMixColumns (MixColumns s) ≡ s
unfolding MixColumns InvMixColumns found wanted twice mixed_byte ◌•◌ product_below bit xtimes xtime
InvMixColumns-MixColumns s n bytes = mixed_undone 0x02 0x01 0x01 0x03 0x0e 0x09 0x0d 0x0b tt s bytes n

pub MixColumns-InvMixColumns : (s : List ℕ) → length s ≡ 16 → ((i : ℕ) → get_or s i 0 < 256) → MixColumns (InvMixColumns s) ≡ s
unfolding MixColumns InvMixColumns found wanted twice mixed_byte ◌•◌ product_below bit xtimes xtime
MixColumns-InvMixColumns s n bytes = mixed_undone 0x0e 0x09 0x0d 0x0b 0x02 0x01 0x01 0x03 tt s bytes n
