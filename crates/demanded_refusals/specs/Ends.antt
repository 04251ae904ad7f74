-- Demand 1: "Every call on any bytes and any unit record ends, with a result or one refusal from the numbered list. A write refused with
-- 0x80, 0x81 or 0x82 spends the nonce and changes nothing else in the unit; other refusals change nothing; no refusal touches the lent answer
-- bytes."
-- That each call of the code ends at all is part of what the prover shows of every function.
use Rattle.std.specs.Prelude.{ℕ, ◌≡◌, false, List, [], ◌++◌, length, drop, ℤ}
use Rattle.laws.specs.Answer.{gives, refuses, lent_after}
use Rattle.unit.specs.declared.TagUnit.{TagUnit}
use Rattle.unit.specs.Change.{spent, fresh, no_unit}
use Rattle.unit.specs.WellFormed.{well_formed}
use Rattle.unit.specs.Outcome.{Outcome}
use Rattle.settings_calls.specs.Settings.{new_unit}
use Rattle.tag.specs.Calls.{Written, write, Act, calls}
use Rattle.demanded_answers.specs.History.{step}

-- a refusal of a write, after its nonce is spent; 1 is given before
pub data Spending : ℕ → Type 0 where
  not_authenticated : Spending 0x80
  invalid_value : Spending 0x81
  no_consent : Spending 0x82

-- a refusal that changes nothing. (7 is of the primitives, which have no unit.)
pub data Plain : ℕ → Type 0 where
  out_of_range : Plain 1
  not_well_formed : Plain 2
  wrong_nonce : Plain 3
  wrong_account_key : Plain 4
  no_frame : Plain 5
  no_room : Plain 6

-- how a call on a unit ended, with the lent bytes that it was handed: "success writes a stated first part and keeps the rest"
pub data Ended (u : TagUnit) (o : Outcome) (before : List ℕ) : Type 0 where
  with_answer : (answer : List ℕ) → o.result ≡ gives answer → lent_after o.result before ≡ answer ++ drop (length answer) before → Ended u o before
  refused_spent : (n : ℕ) → Spending n → o.result ≡ refuses n → o.unit ≡ spent u → lent_after o.result before ≡ before → Ended u o before
  refused_same : (n : ℕ) → Plain n → o.result ≡ refuses n → o.unit ≡ u → lent_after o.result before ≡ before → Ended u o before

-- the refusals that spend are of writes
abbrev pub OnlyWrites : Act → TagUnit → Type 0
OnlyWrites a u = (n : ℕ) → Spending n → (step a u).result ≡ refuses n → (w : Written) × (room : ℕ) × (a ≡ calls (write w) room)

-- a new unit: made fresh, or refused with 1 and then no unit that any call serves
pub data Made (power : ℤ) (components selectable : ℕ) : Type 0 where
  made : (new_unit power components selectable).result ≡ gives []
      → (new_unit power components selectable).unit ≡ fresh (record { power = power; components = components; selectable = selectable })
      → Made power components selectable
  none : (new_unit power components selectable).result ≡ refuses 1
      → (new_unit power components selectable).unit ≡ no_unit
      → well_formed no_unit ≡ false
      → Made power components selectable

pub record Demand1 : Type 0 where
  pub acts : (a : Act) (u : TagUnit) (before : List ℕ) → Ended u (step a u) before
  pub spending : (a : Act) (u : TagUnit) → OnlyWrites a u
  pub new_units : (power : ℤ) (components selectable : ℕ) → Made power components selectable
