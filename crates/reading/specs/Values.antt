-- A text of digits in the terms of Reading. No promise of a public call cites it.
use Rattle.std.specs.Prelude.{ℕ, ◌^◌, cond, ◌&&◌, List, ltb}
use Rattle.std.specs.Prelude.{Option, None, Some}
use Rattle.reading.specs.Reading.{all_digits, value_from}

-- the number of a text of digits, leading zeros or not
unfoldable pub in_digits : List ℕ → Option ℕ
in_digits cs = cond (all_digits cs && ltb (value_from 0 cs) (2 ^ 32)) (Some (value_from 0 cs)) None
