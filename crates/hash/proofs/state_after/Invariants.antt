use mathlib.Core.Path.{◌≡◌}
use mathlib.Core.List.{List, ◌++◌}
use Prim.Native.Nat.{ℕ, ◌+◌, ◌/◌}
use lib.ListN.{length}
use Rattle.hash.specs.Sha256.{hash_value, value_after}
use Rattle.padding.specs.Blocks.{followed}
use Rattle.padding.specs.Parts.{bytes_of}
use Rattle.hash.proofs.state_after.Given as goal

abbrev pub invariant-loop-i : goal.invariant-loop-i
invariant-loop-i l =
    (length l.words ≡ 16)
    × ((p : List ℕ) → length p ≡ l.message.before → l.initial.state ≡ value_after p
    → l.state ≡ hash_value (p ++ followed l.message.before (bytes_of l.message)) (length p / 64 + l.i))
