-- "Replay file": what stands behind a key, and what a number or a flag on a line means, or that it means nothing.
use Rattle.std.specs.Prelude.{ℕ, ◌+◌, ◌-◌, ◌*◌, ◌^◌, Bool, true, false, cond, not, ◌&&◌, ◌||◌, List, [], ◌∷◌, leb, ltb, eqb, length, take, drop, get_or, ℤ, pos, negsuc}
use Rattle.std.specs.Prelude.{Option, None, Some}
use Rattle.laws.specs.Bytes.{same_bytes}

-- key=value: what stands behind the key and its =
unfoldable pub after : List ℕ → List ℕ → Option (List ℕ)
after key line = cond (same_bytes (take (length key) line) key) (Some (drop (length key) line)) None

-- "Numbers are decimal, no leading zeros, no -0, within 32 bits, signed only for power"
abbrev pub is_digit : ℕ → Bool
is_digit c = leb 48 c && leb c 57

unfoldable pub all_digits : List ℕ → Bool
all_digits [] = true
all_digits (c ∷ cs) = is_digit c && all_digits cs

unfoldable pub value_from : ℕ → List ℕ → ℕ
value_from v [] = v
value_from v (c ∷ cs) = value_from (v * 10 + (c - 48)) cs

-- at least one digit, and a first 0 only where it is the only one
unfoldable pub is_numeral : List ℕ → Bool
is_numeral cs = all_digits cs && (eqb (length cs) 1 || (ltb 1 (length cs) && not (eqb (get_or cs 0 0) 48)))

unfoldable pub unsigned : List ℕ → Option ℕ
unsigned cs = cond (is_numeral cs && ltb (value_from 0 cs) (2 ^ 32)) (Some (value_from 0 cs)) None

unfoldable pub negative : ℕ → Option ℤ
negative n = cond (ltb 0 n && leb n (2 ^ 31)) (Some (negsuc (n - 1))) None

unfoldable pub positive : ℕ → Option ℤ
positive n = cond (ltb n (2 ^ 31)) (Some (pos n)) None

abbrev pub minus : ℕ
minus = 45

unfoldable pub signed : List ℕ → Option ℤ
signed [] = None
signed (c ∷ cs) =
    cond (eqb c minus)
    (cond (is_numeral cs) (negative (value_from 0 cs)) None)
    (cond (is_numeral (c ∷ cs)) (positive (value_from 0 (c ∷ cs))) None)

-- "on, 0 or 1"
unfoldable pub flag : List ℕ → Option Bool
flag cs = cond (same_bytes cs (48 ∷ [])) (Some false) (cond (same_bytes cs (49 ∷ [])) (Some true) None)
