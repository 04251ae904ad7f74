-- The steps of a round of AES as FIPS 197 defines them, and their inverses, on a state of 16 bytes. Byte i of the state is row i mod 4,
-- column i / 4 (§3.4).
use Rattle.std.specs.Prelude.{ℕ, ◌+◌, ◌-◌, ◌*◌, ◌/◌, ◌%◌, List, map, get_or, take, drop}
use Rattle.laws.specs.Bytes.{tabulate, ◌⊕◌}
use Rattle.substitution.specs.Box.{SBox, InvSBox}
use Rattle.columns.specs.Columns.{mixed_byte}

-- the state's byte in row r and column c
abbrev pub at : List ℕ → ℕ → ℕ → ℕ
at s r c = get_or s (r + 4 * c) 0

-- the state with f r c in row r and column c
unfoldable pub state_of : (ℕ → ℕ → ℕ) → List ℕ
state_of f = tabulate 16 (λ i. f (i % 4) (i / 4))

-- §5.1.1
unfoldable pub SubBytes : List ℕ → List ℕ
SubBytes s = map SBox s

-- §5.1.2: row r is shifted to the left by r places
unfoldable pub ShiftRows : List ℕ → List ℕ
ShiftRows s = state_of (λ r c. at s r ((c + r) % 4))

-- §5.1.3, §5.3.3: each column mixed with the coefficients
unfoldable pub mixed : ℕ → ℕ → ℕ → ℕ → List ℕ → List ℕ
mixed a₀ a₁ a₂ a₃ s =
    state_of (λ r c. mixed_byte a₀ a₁ a₂ a₃ (at s r c) (at s ((r + 1) % 4) c) (at s ((r + 2) % 4) c) (at s ((r + 3) % 4) c))

unfoldable pub MixColumns : List ℕ → List ℕ
MixColumns = mixed 0x02 0x01 0x01 0x03

-- §5.3.1: row r is shifted to the right by r places
unfoldable pub InvShiftRows : List ℕ → List ℕ
InvShiftRows s = state_of (λ r c. at s r ((c + (4 - r)) % 4))

-- §5.3.2
unfoldable pub InvSubBytes : List ℕ → List ℕ
InvSubBytes s = map InvSBox s

-- §5.3.3
unfoldable pub InvMixColumns : List ℕ → List ℕ
InvMixColumns = mixed 0x0e 0x09 0x0d 0x0b

-- §5.1.4: the round key is the four words from 4 * round on; w is the key schedule, byte after byte
unfoldable pub AddRoundKey : List ℕ → ℕ → List ℕ → List ℕ
AddRoundKey w round s = s ⊕ take 16 (drop (16 * round) w)
