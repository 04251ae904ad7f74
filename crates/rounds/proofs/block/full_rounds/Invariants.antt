use mathlib.Core.Path.{◌≡◌}
use mathlib.Core.List.{List}
use Prim.Native.Nat.{ℕ, ◌-◌}
use Rattle.words.specs.Words.{bytes_of}
use Rattle.steps.specs.Steps.{AddRoundKey}
use Rattle.rounds.specs.Rounds.{rounds}
use Rattle.rounds.proofs.block.full_rounds.Given as goal

abbrev pub invariant-loop-round : goal.invariant-loop-round
invariant-loop-round l =
    (block : List ℕ) → l.initial.s ≡ AddRoundKey (bytes_of l.keys) 0 block → l.s ≡ rounds (bytes_of l.keys) (l.round - 1) block
