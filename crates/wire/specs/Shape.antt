-- "A write is ID, length, 8 tag bytes, additional data": its parts, and which shapes are legal.
use Rattle.std.specs.Prelude.{ℕ, ◌+◌, Bool, ◌&&◌, List, leb, eqb, length, get_or, take, drop}
use Rattle.wire.specs.declared.Head.{Head}
pub use Rattle.shapes.specs.Lengths.{proven_size}
unfoldable pub use Rattle.shapes.specs.Lengths.{legal_sizes, one_of, size_legal}
use Rattle.sizes.specs.Sizes.{tag_size}

-- the parts of a write (its length byte is `size` here); "the additional data is the part of the write from byte 10 onward"
pub record Request : Type 0 where
  pub id : ℕ
  pub size : ℕ
  pub tag : List ℕ
  pub additional : List ℕ

-- a request as the code hands it on: the first ten bytes, and the rest as a part of the write
abbrev pub request : Head → List ℕ → Request
request h additional = record { id = h.id; size = h.size; tag = h.tag; additional = additional }

unfoldable pub parsed : List ℕ → Request
parsed w = record { id = get_or w 0 0; size = get_or w 1 0; tag = take tag_size (drop 2 w); additional = drop (2 + tag_size) w }

-- A write has an ID and a length byte; "so the write has length + 2 bytes"
unfoldable pub shape_legal : List ℕ → Bool
shape_legal w = leb 2 (length w) && (size_legal (get_or w 0 0) (get_or w 1 0) && eqb (length w) (get_or w 1 0 + 2))
