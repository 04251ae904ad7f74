-- The closed form that the code computes for any number of tenths at once. No promise of a public call cites it: it is joined to the
-- one-tenth rule by a law (proofs/Tenths).
use Rattle.std.specs.Prelude.{ℕ, ◌+◌, ◌-◌, ◌/◌, ◌%◌, ◌^◌}
use Rattle.unit.specs.declared.TagUnit.{TagUnit}
use Rattle.unit.specs.declared.Clock.{Clock}
use Rattle.unit.specs.Change.{with_clock, with_consent}

unfoldable pub clock_later : ℕ → Clock → Clock
clock_later n c =
    record { seconds = (c.seconds + (c.tenth + n) / 10) % 2 ^ 32; tenth = (c.tenth + n) % 10 }

-- the unit n tenths later, its sound aside
unfoldable pub unit_later : ℕ → TagUnit → TagUnit
unit_later n u = with_clock (clock_later n u.clock) (with_consent (u.consent - n) u)
