-- The edges hold: each row of the table is computed.
use mathlib.Core.Path.{refl}
use Rattle.unit.specs.WellFormed.{settings_legal}
use Rattle.laws.specs.Bytes.{number, number_after, big_endian}
use Rattle.ring_decisions.specs.Decisions.{ring_decision}
use Rattle.ring_values.specs.RingValues.{ring_legal}
use Rattle.ringing.specs.Ringing.{ring, rung}
use Rattle.settings_calls.specs.Settings.{new_unit}
use Rattle.time.specs.Time.{clock_on, ring_on, one_tenth, after_tenth, tenths}
use Rattle.demanded_answers.specs.Edges.{table, Edges}

pub edges : Edges
unfolding table settings_legal ring ring_decision rung ring_legal number number_after big_endian new_unit clock_on ring_on one_tenth after_tenth tenths
edges = (refl, (refl, (refl, (refl, (refl, (refl, (refl, (refl, (refl, (refl, (refl, (refl, (refl, tt)))))))))))))
