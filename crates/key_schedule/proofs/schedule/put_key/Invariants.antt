use mathlib.Core.Path.{◌≡◌}
use Prim.Native.Nat.{◌*◌}
use lib.ListN.{take}
use Rattle.words.specs.Words.{bytes_of}
use Rattle.key_schedule.proofs.schedule.put_key.Given as goal

abbrev pub invariant-loop-k : goal.invariant-loop-k
invariant-loop-k l = bytes_of (take l.k l.w) ≡ take (4 * l.k) l.key
