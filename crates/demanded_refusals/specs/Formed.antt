-- Well-formedness over calls: every call keeps a well-formed unit well formed, a fresh unit is well formed for all legal settings, and the
-- record of a refused new unit is not. So from a fresh unit no call ever meets refusal 2.
use Rattle.std.specs.Prelude.{◌≡◌, true, false}
use Rattle.unit.specs.declared.TagUnit.{TagUnit}
use Rattle.unit.specs.declared.Settings.{Settings}
use Rattle.unit.specs.Change.{fresh, no_unit}
use Rattle.unit.specs.WellFormed.{well_formed, settings_legal}
use Rattle.tag.specs.Calls.{Act}
use Rattle.demanded_answers.specs.History.{step}

pub record Formed : Type 0 where
  pub kept : (a : Act) (u : TagUnit) → well_formed u ≡ true → well_formed (step a u).unit ≡ true
  pub freshly : (s : Settings) → settings_legal s ≡ true → well_formed (fresh s) ≡ true
  pub refused : well_formed no_unit ≡ false
