-- What the reader's exported calls give: one number, and the lent bytes after the call.
use Rattle.std.specs.Prelude.{Option, None, Some}
use Rattle.std.specs.Prelude.{ℕ, ◌+◌, ◌*◌, ◌^◌, ◌≡◌, cond, List, [], ◌∷◌, ◌++◌, ltb, length}
use Rattle.laws.specs.Answer.{Result, gives, refuses, lent_after}
use Rattle.sizes.specs.Sizes.{identifier_size}
use Rattle.frame_reader.specs.Reader.{Parts, Reading, reads, refused, wrong_byte, read_frame}
use Rattle.frame_opener.specs.Opener.{Opened, read_frame_with_r}

-- "it gives identifier, protection bit and flags byte if present": the identifier, protection as 0 or 1, whether there is a flags byte, as 0 or
-- 1, and that byte, or 0; with r the battery level behind them
abbrev pub flags_shown : Option ℕ → ℕ
flags_shown None = 0
flags_shown (Some byte) = 1

abbrev pub flags_byte : Option ℕ → ℕ
flags_byte None = 0
flags_byte (Some byte) = byte

-- where each of them stands, and how many bytes they take
abbrev pub parts_identifier_at : ℕ
parts_identifier_at = 0

abbrev pub parts_protection_at : ℕ
parts_protection_at = parts_identifier_at + identifier_size

abbrev pub parts_flags_shown_at : ℕ
parts_flags_shown_at = parts_protection_at + 1

abbrev pub parts_flags_byte_at : ℕ
parts_flags_byte_at = parts_flags_shown_at + 1

abbrev pub parts_size : ℕ
parts_size = parts_flags_byte_at + 1

abbrev pub parts_battery_at : ℕ
parts_battery_at = parts_size

abbrev pub parts_with_r_size : ℕ
parts_with_r_size = parts_battery_at + 1

unfoldable pub part_bytes : Parts → List ℕ
part_bytes p = p.identifier ++ (cond p.protected 1 0 ∷ flags_shown p.flags ∷ flags_byte p.flags ∷ [])

unfoldable pub opened_bytes : Opened → List ℕ
opened_bytes o = part_bytes o.parts ++ (o.battery ∷ [])

-- bytes for what was read; and refusal 6 before anything else, for fewer lent bytes than they take
module _ {A : Type 0} where
  abbrev pub written : (A → List ℕ) → Reading A → Reading (List ℕ)
  written bytes (reads a) = reads (bytes a)
  written bytes (refused number place) = refused number place

abbrev pub no_room : ℕ
no_room = 6

unfoldable pub roomy : ℕ → ℕ → Reading (List ℕ) → Reading (List ℕ)
roomy size room reading = cond (ltb room size) (refused no_room 0) reading

abbrev pub parts_read : List ℕ → ℕ → Reading (List ℕ)
parts_read text room = roomy parts_size room (written part_bytes (read_frame identifier_size text))

abbrev pub parts_read_with_r : List ℕ → List ℕ → ℕ → Reading (List ℕ)
parts_read_with_r r text room = roomy parts_with_r_size room (written opened_bytes (read_frame_with_r identifier_size r text))

-- the number of bytes written, or 256 and the refusal's number and, 65,536 times, its place
abbrev pub reading_code : Reading (List ℕ) → ℕ
reading_code (reads bytes) = length bytes
reading_code (refused number place) = 256 + number + place * 2 ^ 16

abbrev pub wrong_byte_code : ℕ → ℕ
wrong_byte_code place = reading_code (refused wrong_byte place)

abbrev pub reading_result : Reading (List ℕ) → Result
reading_result (reads bytes) = gives bytes
reading_result (refused number place) = refuses number

pub record ExportsReading (reading : Reading (List ℕ)) (result : ℕ) (before after : List ℕ) : Type 0 where
  pub code_is : result ≡ reading_code reading
  pub bytes_are : after ≡ lent_after (reading_result reading) before
