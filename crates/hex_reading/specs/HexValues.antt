-- What reading hexadecimal into lent bytes gives in the terms of Hex. No promise of a public call but `unhex` cites it.
use Rattle.std.specs.Prelude.{ℕ, ◌+◌, ◌*◌, ◌≤◌, ◌≡◌, List, length, take, Option, Some, None}
use Rattle.hex_reading.specs.Hex.{bytes}

-- the byte of two digits
abbrev pub pair_of : Option ℕ → Option ℕ → Option ℕ
pair_of None l = None
pair_of (Some h) None = None
pair_of (Some h) (Some l) = Some (h * 16 + l)

-- the bytes that stand at the front of those after the call
abbrev pub octets_of : Option ℕ → List ℕ → Option (List ℕ)
octets_of (Some n) after = Some (take n after)
octets_of None after = None

abbrev pub count_of : Option ℕ → ℕ
count_of (Some n) = n
count_of None = 0

pub record Unhexes (text : List ℕ) (r : Option ℕ) (after : List ℕ) : Type 0 where
  pub bytes_are : octets_of r after ≡ bytes text
  pub within_text : 2 * count_of r ≤ length text
