-- 2026-02, "A reader for our own frames": what a text says as a frame whose identifier has `size` bytes, or where it is wrong.
use Rattle.std.specs.Prelude.{Option, None, Some}
use Rattle.std.specs.Prelude.{ℕ, suc, ◌+◌, Bool, cond, ◌&&◌, List, [], ◌∷◌, ◌++◌, eqb, get_or, take, drop, replicate}
use Rattle.laws.specs.Bytes.{same_bytes}
use Rattle.sizes.specs.Sizes.{frame_identifier_at, frame_flags_at}
use Rattle.frame.specs.Frame.{rendered}

-- "it gives identifier, protection bit and flags byte if present"
pub record Parts : Type 0 where
  pub identifier : List ℕ
  pub protected : Bool
  pub flags : Option ℕ

-- what the writer makes of them
abbrev pub frame_of : ℕ → Parts → List ℕ
frame_of size p = rendered size p.identifier p.protected p.flags

-- "or refuses with 8, new in the list, and the place of the first wrong byte": the refusal's number and its place, counted from 0. Refusal 1
-- has no place, and says 0
pub data Reading (A : Type 0) : Type 0 where
  reads : A → Reading A
  refused : (number place : ℕ) → Reading A

-- "refuses with 8, new in the list"
abbrev pub wrong_byte : ℕ
wrong_byte = 8

-- Where the length byte and the byte of the frame's kind stand
abbrev pub length_at : ℕ
length_at = 3

abbrev pub kind_at : ℕ
kind_at = 7

-- Whether the length byte says that there is a flags byte
abbrev pub says_flags : ℕ → List ℕ → Bool
says_flags size text = eqb (get_or text length_at 0) (size + 5)

-- The parts that a text claims, as its bytes stand there; where it ends before them, zeros. "After length 0x18, 0x41 is a wrong byte, since
-- our writer never omits flags under protection": without a flags byte none claims protection
unfoldable pub claimed : ℕ → List ℕ → Parts
claimed size text =
    record {
      identifier = take size (drop frame_identifier_at text ++ replicate size 0);
      protected = says_flags size text && eqb (get_or text kind_at 0) 0x41;
      flags = cond (says_flags size text) (Some (get_or text (frame_flags_at size) 0)) None;
    }

-- how many bytes two lists have in common, from the first on
unfoldable pub common : List ℕ → List ℕ → ℕ
common [] ys = 0
common (x ∷ xs) [] = 0
common (x ∷ xs) (y ∷ ys) = cond (eqb x y) (suc (common xs ys)) 0

-- A text reads if it is the frame that the writer makes of what the text claims. Else the first wrong byte is the first that differs from that
-- frame's: "for a frame cut short that place is its length, for one too long the first byte too many; the earliest counts"
abbrev pub claimed_frame : ℕ → List ℕ → List ℕ
claimed_frame size text = frame_of size (claimed size text)

unfoldable pub first_wrong : ℕ → List ℕ → ℕ
first_wrong size text = common text (claimed_frame size text)

unfoldable pub read_frame : ℕ → List ℕ → Reading Parts
read_frame size text =
    cond (same_bytes text (claimed_frame size text)) (reads (claimed size text)) (refused wrong_byte (first_wrong size text))
