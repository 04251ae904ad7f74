-- "Replay file": what a value in hexadecimal means, or that it means nothing.
use Rattle.std.specs.Prelude.{ℕ, ◌+◌, ◌-◌, ◌*◌, cond, ◌&&◌, List, [], ◌∷◌, leb}
use Rattle.std.specs.Prelude.{Option, None, Some}
use Rattle.reading.specs.Reading.{is_digit}

-- "hex in lower case, whole bytes, perhaps none"
unfoldable pub hex_value : ℕ → Option ℕ
hex_value c = cond (is_digit c) (Some (c - 48)) (cond (leb 97 c && leb c 102) (Some (c - 87)) None)

unfoldable pub pair_value : Option ℕ → Option ℕ → Option (List ℕ) → Option (List ℕ)
pair_value None l r = None
pair_value (Some h) None r = None
pair_value (Some h) (Some l) None = None
pair_value (Some h) (Some l) (Some bs) = Some ((h * 16 + l) ∷ bs)

unfoldable pub bytes : List ℕ → Option (List ℕ)
bytes [] = Some []
bytes (c ∷ []) = None
bytes (c ∷ (d ∷ cs)) = pair_value (hex_value c) (hex_value d) (bytes cs)

-- "one hex byte": two digits, no more and no fewer
abbrev pub only_one : Option (List ℕ) → Option ℕ
only_one None = None
only_one (Some []) = None
only_one (Some (b ∷ [])) = Some b
only_one (Some (b ∷ (c ∷ bs))) = None

unfoldable pub one_byte : List ℕ → Option ℕ
one_byte cs = only_one (bytes cs)
