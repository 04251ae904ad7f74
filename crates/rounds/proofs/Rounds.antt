-- The rounds one at a time: none, and one more, each way.
use mathlib.Core.Path.{◌≡◌, refl}
use mathlib.Core.List.{List}
use Prim.Native.Nat.{ℕ, ◌+◌}
use native.Mathlib.Numerals.{add-one}
use Rattle.steps.specs.Steps.{SubBytes, ShiftRows, MixColumns, AddRoundKey, InvSubBytes, InvShiftRows, InvMixColumns}
use Rattle.rounds.specs.Rounds.{rounds, inv_rounds}

module _ (w s : List ℕ) where
  pub rounds_zero : rounds w 0 s ≡ AddRoundKey w 0 s
  unfolding rounds
  rounds_zero = refl

  pub rounds_step : (n : ℕ) → rounds w (n + 1) s ≡ AddRoundKey w (n + 1) (MixColumns (ShiftRows (SubBytes (rounds w n s))))
  unfolding rounds
  rounds_step n = rw add-one

  pub inv_rounds_zero : inv_rounds w 0 s ≡ AddRoundKey w 0 (InvSubBytes (InvShiftRows s))
  unfolding inv_rounds
  inv_rounds_zero = refl

  pub inv_rounds_step : (n : ℕ) → inv_rounds w (n + 1) s ≡ inv_rounds w n (InvMixColumns (AddRoundKey w (n + 1) (InvSubBytes (InvShiftRows s))))
  unfolding inv_rounds
  inv_rounds_step n = rw add-one
