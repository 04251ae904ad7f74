-- `curve_vectors::answer` is safe: both lines fit the buffer.
use mathlib.Core.Path.{◌≡◌, sym}
use mathlib.Core.List.{List, [], ◌∷◌, ◌++◌}
use Prim.Native.Nat.{ℕ, ◌+◌, ◌*◌}
use lib.ListN.{length, length-append}
use lib.Seq.{length-take-le}
use Rattle.notation.specs.Text.{hex, newline}
use Rattle.notation.proofs.Hex.{length_hex}
use native.Mathlib.Omega.{arith}
use Rattle.curve_vectors.proofs.answer.Goals as goal

line_length : (key bytes : List ℕ) → length (key ++ (hex bytes ++ (newline ∷ []))) ≡ length key + (2 * length bytes + 1)
line_length key bytes =
    omega (arith, length-append key (hex bytes ++ (newline ∷ [])), length-append (hex bytes) (newline ∷ []), length_hex bytes)

pub hex_line-end-requires : goal.hex_line-end-requires
hex_line-end-requires g c =
    omega (arith, c.hex_line-next.ensures.next_is, line_length (114 ∷ 61 ∷ []) c.args.r.now, c.hex_line-next.auto.out)

pub slice_bounds-out-end : goal.slice_bounds-out-end
slice_bounds-out-end g c =
    omega (arith, c.hex_line-next.ensures.next_is, line_length (114 ∷ 61 ∷ []) c.args.r.now, c.hex_line-next.auto.out, c.hex_line-end.ensures.next_is, line_length (120 ∷ 61 ∷ []) c.args.x.now, c.hex_line-end.auto.out)

pub slice_bounds-write_all-end : goal.slice_bounds-write_all-end
slice_bounds-write_all-end g c =
    sym
    (length-take-le c.hex_line-end.result c.hex_line-end.new.out
    (omega (arith, c.hex_line-next.ensures.next_is, line_length (114 ∷ 61 ∷ []) c.args.r.now, c.hex_line-next.auto.out, c.hex_line-end.ensures.next_is, line_length (120 ∷ 61 ∷ []) c.args.x.now, c.hex_line-end.auto.out)))
