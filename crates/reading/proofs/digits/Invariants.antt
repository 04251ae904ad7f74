use Prim.Native.Nat.{◌<◌, ◌^◌}
use mathlib.Core.Path.{◌≡◌}
use lib.ListN.{drop}
use Rattle.reading.specs.Reading.{all_digits, value_from}
use Rattle.reading.proofs.digits.Given as goal

abbrev pub invariant-loop-c : goal.invariant-loop-c
invariant-loop-c l =
    (l.value < 2 ^ 32) × (all_digits l.text ≡ all_digits (drop l.c-index l.text)) × (value_from 0 l.text ≡ value_from l.value (drop l.c-index l.text))
