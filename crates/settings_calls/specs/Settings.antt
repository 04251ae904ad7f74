-- A new unit by its settings, and the battery level on a unit that passed the guards.
use Rattle.std.specs.Prelude.{ℕ, cond, [], leb, ℤ}
use Rattle.sizes.specs.Sizes.{highest_battery}
use Rattle.unit.specs.declared.TagUnit.{TagUnit}
use Rattle.unit.specs.declared.Settings.{Settings}
use Rattle.unit.specs.WellFormed.{settings_legal}
use Rattle.unit.specs.Change.{fresh, no_unit, with_battery}
use Rattle.unit.specs.Outcome.{Outcome, giving, refusing}

-- A new unit: "settings .. out of range": 1; "A new unit checks only 1"
unfoldable pub new_unit : ℤ → ℕ → ℕ → Outcome
new_unit power components selectable =
    let s : Settings = record { power = power; components = components; selectable = selectable } in
    cond (settings_legal s) (giving [] (fresh s)) (refusing 1 no_unit)

-- "1: .. battery out of range"
unfoldable pub charged : ℕ → TagUnit → Outcome
charged level u = cond (leb level highest_battery) (giving [] (with_battery level u)) (refusing 1 u)
