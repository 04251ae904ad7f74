use mathlib.Core.Path.{◌≡◌}
use mathlib.Core.List.{List}
use Prim.Native.Nat.{ℕ, ◌-◌}
use Rattle.words.specs.Words.{bytes_of}
use Rattle.inverse_keys.specs.Keys.{InverseKeys}
use Rattle.rounds.specs.Rounds.{inv_rounds}
use Rattle.rounds.proofs.block.inv_full_rounds.Given as goal

abbrev pub invariant-loop-round : goal.invariant-loop-round
invariant-loop-round l =
    (w : List ℕ) → InverseKeys l.nr w l.keys → inv_rounds (bytes_of w) (l.round - 1) l.s ≡ inv_rounds (bytes_of w) (l.nr - 1) l.initial.s
