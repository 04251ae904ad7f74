use mathlib.Core.Path.{◌≡◌}
use lib.ListN.{length}
use lib.Seq.{paste}
use Rattle.lent_answer.proofs.give.Given as goal

abbrev pub invariant-loop-i : goal.invariant-loop-i
invariant-loop-i l = (l.answer ≡ paste l.initial.answer 0 l.bytes l.i) × (length l.answer ≡ length l.initial.answer)
