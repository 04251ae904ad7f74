-- 2026-02, "A reader for our own frames": what a text whose identifier has `size` bytes says as a frame with r.
use Rattle.std.specs.Prelude.{Option, None, Some}
use Rattle.std.specs.Prelude.{ℕ, ◌/◌, ◌%◌, Bool, cond, not, ◌&&◌, List, eqb, length}
use Rattle.std.specs.Int.Bits.{bit_xor}
use Rattle.sizes.specs.Sizes.{frame_flags_at}
use Rattle.frame.specs.Frame.{flags_mask}
use Rattle.frame_reader.specs.Reader.{Parts, Reading, reads, refused, wrong_byte, read_frame}

-- "refusal 1" for an r of a wrong size
abbrev pub wrong_size : ℕ
wrong_size = 1

-- "Given r .., the battery level is recovered too": what a frame says with it
pub record Opened : Type 0 where
  pub parts : Parts
  pub battery : ℕ

-- The flags byte after the XOR, from its last bit on: protection, the battery level in two bits, five reserved bits
abbrev pub unmasked : List ℕ → ℕ → ℕ
unmasked r byte = bit_xor byte (flags_mask r)

abbrev pub protection_bit : ℕ → ℕ
protection_bit f = f % 2

abbrev pub battery_level : ℕ → ℕ
battery_level f = f / 2 % 4

abbrev pub reserved_bits : ℕ → ℕ
reserved_bits f = f / 8

-- "a flags byte whose five reserved bits aren't zero after the XOR, whose protection bit differs from the frame type, or which shows battery 0
-- and no protection, is refused at that byte"
unfoldable pub flags_right : Bool → ℕ → Bool
flags_right on f =
    eqb (reserved_bits f) 0 && (eqb (protection_bit f) (cond on 1 0) && not (eqb (battery_level f) 0 && eqb (protection_bit f) 0))

unfoldable pub opened_by : List ℕ → ℕ → Parts → Option ℕ → Reading Opened
opened_by r size p None = reads (record { parts = p; battery = 0 })
opened_by r size p (Some byte) =
    cond (flags_right p.protected (unmasked r byte))
    (reads (record { parts = p; battery = battery_level (unmasked r byte) }))
    (refused wrong_byte (frame_flags_at size))

-- "looked at only when the frame reads; refusal 1 if it isn't as long as its identifier"
abbrev pub with_r : List ℕ → ℕ → Reading Parts → Reading Opened
with_r r size (refused number place) = refused number place
with_r r size (reads p) = cond (eqb (length r) size) (opened_by r size p p.flags) (refused wrong_size 0)

unfoldable pub read_frame_with_r : ℕ → List ℕ → List ℕ → Reading Opened
read_frame_with_r size r text = with_r r size (read_frame size text)
