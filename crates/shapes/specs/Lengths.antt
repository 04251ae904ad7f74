-- Which length bytes are legal for a data ID.
use Rattle.std.specs.Prelude.{ℕ, Bool, false, ◌||◌, List, [], ◌∷◌, eqb, get_or}

-- the length of a 0x02 that proves the key held
abbrev pub proven_size : ℕ
proven_size = 48

-- "Legal lengths: 0x00, 0x01, 0x04, 0x06: 8; 0x02: 40 or 48; 0x03, 0x08: 16; 0x05: 12; 0x07: 8 or 9", by ID
unfoldable pub legal_sizes : List (List ℕ)
legal_sizes =
    (8 ∷ [])  -- 0x00
    ∷ (8 ∷ [])  -- 0x01
    ∷ (40 ∷ proven_size ∷ [])  -- 0x02
    ∷ (16 ∷ [])  -- 0x03
    ∷ (8 ∷ [])  -- 0x04
    ∷ (12 ∷ [])  -- 0x05
    ∷ (8 ∷ [])  -- 0x06
    ∷ (8 ∷ 9 ∷ [])  -- 0x07
    ∷ (16 ∷ [])  -- 0x08
    ∷ []

unfoldable pub one_of : ℕ → List ℕ → Bool
one_of n [] = false
one_of n (x ∷ xs) = eqb n x || one_of n xs

-- An unknown ID has no legal length
unfoldable pub size_legal : ℕ → ℕ → Bool
size_legal id size = one_of size (get_or legal_sizes id [])
