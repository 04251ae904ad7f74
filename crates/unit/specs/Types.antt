-- Two types of the code, under the names that the definitions give them.
use Rattle.std.specs.Prelude.{ℕ, Option, Result}
use Rattle.unit.specs.declared.Refusal.{Refusal}

-- the owner's place among the account keys, if there is an owner
abbrev pub Owner : Type 0
Owner = Option ℕ

-- the end of a call: how many answer bytes it wrote, or its refusal
abbrev pub Reply : Type 0
Reply = Result ℕ Refusal
