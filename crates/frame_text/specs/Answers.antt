-- What a returns desk reads of scanned frames: for each line of its input one line, with the parts of the frame or the refusal in words. A frame
-- stands on its line as bytes in lower-case hexadecimal, as in a session file; a line has at most 256 bytes.
use Rattle.std.specs.Prelude.{ℕ, Bool, cond, List, [], ◌∷◌, ◌++◌, leb, eqb, length}
use Rattle.std.specs.Prelude.{Option, None, Some}
use Rattle.sizes.specs.Sizes.{identifier_size}
use Rattle.notation.specs.Text.{ascii, newline, hex, decimal}
use Rattle.hex_reading.specs.Hex.{bytes}
use Rattle.frame_reader.specs.Reader.{Parts, Reading, reads, refused, read_frame}

abbrev pub longest_line : ℕ
longest_line = 256

-- "it gives identifier, protection bit and flags byte if present"
abbrev pub protection_text : Bool → List ℕ
protection_text on = cond on (ascii " protection=1") (ascii " protection=0")

abbrev pub flags_text : Option ℕ → List ℕ
flags_text None = newline ∷ []
flags_text (Some byte) = ascii " flags=" ++ (hex (byte ∷ []) ++ (newline ∷ []))

unfoldable pub parts_text : Parts → List ℕ
parts_text p = ascii "identifier=" ++ (hex p.identifier ++ (protection_text p.protected ++ flags_text p.flags))

-- "or refuses with 8, new in the list, and the place of the first wrong byte"
unfoldable pub refusal_text : ℕ → ℕ → List ℕ
refusal_text number place =
    ascii "refused with " ++ (decimal number ++ (ascii ": first wrong byte at place " ++ (decimal place ++ (newline ∷ []))))

abbrev pub malformed_text : List ℕ
malformed_text = ascii "malformed\n"

abbrev pub reading_text : Reading Parts → List ℕ
reading_text (reads p) = parts_text p
reading_text (refused number place) = refusal_text number place

-- a line without its newline; one that is too long, or no bytes in hexadecimal, is malformed
abbrev pub bytes_text : Option (List ℕ) → List ℕ
bytes_text None = malformed_text
bytes_text (Some frame) = reading_text (read_frame identifier_size frame)

unfoldable pub line_text : List ℕ → List ℕ
line_text line = cond (leb (length line) longest_line) (bytes_text (bytes line)) malformed_text

-- the whole input: the line so far and what follows; behind the last newline stands one more line if there is a byte
unfoldable pub printed_from : List ℕ → List ℕ → List ℕ
printed_from line [] = cond (eqb (length line) 0) [] (line_text line)
printed_from line (b ∷ bs) =
    cond (eqb b newline) (line_text line ++ printed_from [] bs) (printed_from (line ++ (b ∷ [])) bs)

abbrev pub printed : List ℕ → List ℕ
printed input = printed_from [] input
