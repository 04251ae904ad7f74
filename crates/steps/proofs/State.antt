-- A state looked up in a box, and a state as four words.
use mathlib.Core.Path.{◌≡◌, sym, ap, ◌∙◌}
use mathlib.Core.List.{List, [], ◌∷◌, map}
use Prim.Native.Nat.{ℕ, ◌+◌, ◌*◌, ◌≤◌, ◌<◌}
use native.Mathlib.Omega.{arith}
use lib.Bits.{bit_xor}
use lib.ListN.{length, get_or, take, drop, length-drop}
use lib.Seq.{length-take-le}
use Rattle.laws.specs.Bytes.{tabulate, number, ◌⊕◌}
use Rattle.laws.proofs.Elements.{all_elements}
use Rattle.words.specs.Words.{bytes_of}
use Rattle.words.proofs.Words.{bytes_number, bytes_of_xor, state_at}
use Rattle.substitution.specs.Box.{TableOf}
use Rattle.substitution.proofs.Maps.{map_agree}
use Rattle.steps.specs.Steps.{AddRoundKey}

-- a state looked up in a table of a box
pub looked_up : (f : ℕ → ℕ) (table s : List ℕ) → TableOf f table → ((i : ℕ) → get_or s i 0 < 256) → map (λ b. get_or table b 0) s ≡ map f s
looked_up f table s entry bytes = map_agree (λ b. get_or table b 0) f entry s bytes

pub long_round_key : (w : List ℕ) (round : ℕ) → 16 * round + 16 ≤ length w → length (take 16 (drop (16 * round) w)) ≡ 16
long_round_key w round fits = length-take-le 16 (drop (16 * round) w) (rw length-drop (omega arith))

-- ---- a state as four words

-- its columns with the words of a round key added
pub keyed : (ws : List ℕ) (round a b c d : ℕ) → 4 * round + 4 ≤ length ws
    → AddRoundKey (bytes_of ws) round (bytes_of (a ∷ b ∷ c ∷ d ∷ []))
    ≡ bytes_of
    (bit_xor a (get_or ws (4 * round) 0) ∷ bit_xor b (get_or ws (4 * round + 1) 0) ∷ bit_xor c (get_or ws (4 * round + 2) 0) ∷ bit_xor d (get_or ws (4 * round + 3) 0) ∷ [])
unfolding AddRoundKey ◌⊕◌
keyed ws round a b c d fits =
    ap (λ (k : List ℕ). bytes_of (a ∷ b ∷ c ∷ d ∷ []) ⊕ k) (state_at ws round fits)
    ∙ sym
    (bytes_of_xor (a ∷ b ∷ c ∷ d ∷ [])
    (get_or ws (4 * round) 0 ∷ get_or ws (4 * round + 1) 0 ∷ get_or ws (4 * round + 2) 0 ∷ get_or ws (4 * round + 3) 0 ∷ []))

-- a state of bytes as four words
pub in_words : (s : List ℕ) → length s ≡ 16 → ((i : ℕ) → get_or s i 0 < 256)
    → s
    ≡ bytes_of
    (number (get_or s 0 0 ∷ get_or s 1 0 ∷ get_or s 2 0 ∷ get_or s 3 0 ∷ [])
    ∷ number (get_or s 4 0 ∷ get_or s 5 0 ∷ get_or s 6 0 ∷ get_or s 7 0 ∷ [])
    ∷ number (get_or s 8 0 ∷ get_or s 9 0 ∷ get_or s 10 0 ∷ get_or s 11 0 ∷ [])
    ∷ number (get_or s 12 0 ∷ get_or s 13 0 ∷ get_or s 14 0 ∷ get_or s 15 0 ∷ [])
    ∷ [])
unfolding bytes_of tabulate
in_words s n bytes =
    all_elements 0 16 s n
    ∙ sym
    (rw (
      bytes_number (get_or s 0 0) (get_or s 1 0) (get_or s 2 0) (get_or s 3 0) (bytes 0) (bytes 1) (bytes 2) (bytes 3),
      bytes_number (get_or s 4 0) (get_or s 5 0) (get_or s 6 0) (get_or s 7 0) (bytes 4) (bytes 5) (bytes 6) (bytes 7),
      bytes_number (get_or s 8 0) (get_or s 9 0) (get_or s 10 0) (get_or s 11 0) (bytes 8) (bytes 9) (bytes 10) (bytes 11),
      bytes_number (get_or s 12 0) (get_or s 13 0) (get_or s 14 0) (get_or s 15 0) (bytes 12) (bytes 13) (bytes 14) (bytes 15),
    ))
