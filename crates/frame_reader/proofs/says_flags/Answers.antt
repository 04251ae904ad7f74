-- `frame_reader::says_flags` meets its contract: the length byte fits, as every byte does.
use native.Mathlib.Omega.{arith}
use Rattle.frame_reader.proofs.says_flags.Goals as goal

pub overflow_cast-result : goal.overflow_cast-result
overflow_cast-result c = omega (arith, c.shared_slice_known-1.given 3)
