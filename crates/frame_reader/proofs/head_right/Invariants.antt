use Prim.Native.Nat.{◌≤◌}
use Rattle.frame_reader.specs.Reader.{first_wrong}
use Rattle.frame_reader.proofs.head_right.Given as goal

abbrev pub invariant-loop-at : goal.invariant-loop-at
invariant-loop-at l = l.at ≤ first_wrong l.size l.text
