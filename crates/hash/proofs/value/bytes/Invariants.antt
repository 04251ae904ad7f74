use mathlib.Core.Path.{◌≡◌}
use lib.ListN.{take}
use Rattle.octets.specs.Put.{pasted}
use Rattle.words.specs.Words.{bytes_of}
use Rattle.hash.proofs.value.bytes.Given as goal

abbrev pub invariant-loop-i : goal.invariant-loop-i
invariant-loop-i l = l.out ≡ pasted l.initial.out 0 (bytes_of (take l.i l.word-items))
