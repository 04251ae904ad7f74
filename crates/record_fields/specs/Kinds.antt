-- The kinds of fields that a record has: bytes, numbers, flags, calibrated power. All numbers are big-endian.
use Rattle.std.specs.Prelude.{ℕ, ◌-◌, ◌^◌, ◌<◌, ◌≡◌, Bool, true, false, cond, List, [], ◌∷◌, ltb, eqb, length, get_or, ℤ, pos, negsuc}
use Rattle.std.specs.Int.Signed.{mag}
use Rattle.laws.specs.Bytes.{big_endian, number}
use Rattle.record_fields.specs.Part.{Part, run}

abbrev pub byte_size : ℕ
byte_size = 1

-- one byte
abbrev pub byte : Part byte_size ℕ
byte = record { bytes = λ n. n ∷ []; value = λ b at. get_or b at 0; fits = λ n. n < 256 }

-- bytes as they are
abbrev pub plain : (n : ℕ) → Part n (List ℕ)
plain n = record { bytes = λ l. l; value = λ b at. run b at n; fits = λ l. length l ≡ n }

-- a number of n bytes
abbrev pub number_of : (n : ℕ) → Part n ℕ
number_of n = record { bytes = λ k. big_endian n k; value = λ b at. number (run b at n); fits = λ k. k < 256 ^ n }

-- bytes of a number of tenths, of seconds, and of a count or a place
abbrev pub tenths_size : ℕ
tenths_size = 2

abbrev pub seconds_size : ℕ
seconds_size = 4

abbrev pub count_size : ℕ
count_size = 8

-- a flag: 1 where it is set, or 0
abbrev pub flag_byte : Bool → ℕ
flag_byte false = 0
flag_byte true = 1

abbrev pub flag : Part byte_size Bool
flag = record { bytes = λ f. flag_byte f ∷ []; value = λ b at. eqb (get_or b at 0) 1; fits = λ f. Unit }

-- calibrated power as 32 bits, two's complement (negsuc n is -(n + 1), and mag of both n and -(n + 1) is n)
abbrev pub power_size : ℕ
power_size = 4

abbrev pub power_word : ℤ → ℕ
power_word (pos n) = n
power_word (negsuc n) = (2 ^ 32 - 1) - n

abbrev pub word_power : ℕ → ℤ
word_power w = cond (ltb w (2 ^ 31)) (pos w) (negsuc ((2 ^ 32 - 1) - w))

abbrev pub power : Part power_size ℤ
power =
    record {
      bytes = λ p. big_endian power_size (power_word p);
      value = λ b at. word_power (number (run b at power_size));
      fits = λ p. mag p < 2 ^ 31;
    }
