use mathlib.Core.Path.{◌≡◌}
use mathlib.Core.List.{List, ◌++◌}
use Prim.Native.Nat.{ℕ, ◌+◌, ◌≤◌}
use lib.ListN.{length, take}
use Rattle.padding.specs.Blocks.{block_at}
use Rattle.padding.proofs.message.lay.Given as goal

abbrev pub invariant-loop-k : goal.invariant-loop-k
invariant-loop-k l =
    (l.at ≤ l.start + l.k) × ((m : List ℕ) → length m ≡ l.start → l.initial.block ≡ block_at m l.at → l.block ≡ block_at (m ++ take l.k l.part) l.at)
