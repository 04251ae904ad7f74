-- "Order: 6, 2, then the call's own": the guards of a call, as the code gives them.
use Rattle.std.specs.Prelude.{ℕ, cond, ltb, Result, Ok, Err}
use Rattle.sizes.specs.Sizes.{answer_room}
use Rattle.unit.specs.declared.TagUnit.{TagUnit}
use Rattle.unit.specs.declared.Refusal.{Refusal}
use Rattle.unit.specs.WellFormed.{well_formed}

-- passed, or the refusal that then ends the call
abbrev pub Guarded : Type 0
Guarded = Result (Unit {0}) Refusal

abbrev pub formed_guard : TagUnit → Guarded
formed_guard u = cond (well_formed u) (Ok tt) (Err Refusal.NotWellFormed)

abbrev pub ready_guard : ℕ → TagUnit → Guarded
ready_guard room u = cond (ltb room answer_room) (Err Refusal.NoRoom) (formed_guard u)
