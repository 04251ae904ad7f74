-- `notation::text::hex_line` meets its contract: the bytes between two texts.
use native.Mathlib.Omega.{arith}
use Rattle.notation.proofs.Hex.{length_hex}
use Rattle.notation.proofs.Placed.{puts_around}
use Rattle.notation.proofs.text.hex_line.Goals as goal

pub put-requires : goal.put-requires
put-requires c = omega (arith, length_hex c.args.bytes.now)

pub returns : goal.returns
returns c = puts_around c.put-next.ensures c.hex-end.ensures c.put.ensures (omega (arith, length_hex c.args.bytes.now))
