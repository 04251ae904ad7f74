use Prim.Native.Nat.{◌-◌}
use Rattle.pieces.proofs.Pieces.{Passed}
use lib.ListN.{length}
use Rattle.pieces.proofs.take.Given as goal

abbrev pub invariant-loop-taken : goal.invariant-loop-taken
invariant-loop-taken l = Passed l.initial.session l.piece l.initial.out l.session l.written l.taken l.out

abbrev pub decreases-loop-taken : goal.decreases-loop-taken
decreases-loop-taken l = length l.piece - l.taken
