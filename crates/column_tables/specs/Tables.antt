-- A column with one byte that is not 0, mixed.
use Rattle.std.specs.Prelude.{ℕ, [], ◌∷◌}
use Rattle.laws.specs.Bytes.{number}
use Rattle.columns.specs.Columns.{mixed_word}

-- the column b, 0, 0, 0 mixed with the coefficients, as a word
unfoldable pub first_mixed : (a₀ a₁ a₂ a₃ b : ℕ) → ℕ
first_mixed a₀ a₁ a₂ a₃ b = mixed_word a₀ a₁ a₂ a₃ (number (b ∷ 0 ∷ 0 ∷ 0 ∷ []))
