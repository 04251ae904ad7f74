-- The key schedule of the equivalent inverse cipher of FIPS 197, §5.3.5, in words: "InvMixColumns(dw[round*Nb, (round+1)*Nb-1])" for the rounds
-- 1 to Nr - 1.
use Rattle.std.specs.Prelude.{ℕ, ◌*◌, ◌≤◌, ◌<◌, ◌≡◌, List, length, get_or}
use Rattle.columns.specs.Columns.{mixed_word}

-- the words of w with those from 4 to m - 1 mixed back
pub record UnmixedTo (m : ℕ) (w keys : List ℕ) : Type 0 where
  pub long : length keys ≡ length w
  pub first : (i : ℕ) → i < 4 → get_or keys i 0 ≡ get_or w i 0
  pub inner : (i : ℕ) → 4 ≤ i → i < m → get_or keys i 0 ≡ mixed_word 0x0e 0x09 0x0d 0x0b (get_or w i 0)
  pub last : (i : ℕ) → m ≤ i → get_or keys i 0 ≡ get_or w i 0

-- for Nr rounds, w the key schedule
abbrev pub InverseKeys : ℕ → List ℕ → List ℕ → Type 0
InverseKeys Nr w keys = UnmixedTo (4 * Nr) w keys
