use mathlib.Core.Path.{◌≡◌}
use Prim.Native.Nat.{◌+◌, ◌*◌}
use lib.ListN.{take, drop}
use Rattle.laws.specs.Bytes.{number}
use Rattle.laws.proofs.Tabulate.{filled_to}
use Rattle.padding.proofs.message.words_at.Given as goal

abbrev pub invariant-loop-t : goal.invariant-loop-t
invariant-loop-t l = l.words ≡ filled_to l.t (λ j. number (take 4 (drop (l.at + 4 * j) l.bytes))) l.initial.words
