-- When a sleeping unit has to wake: "the tenths until the next thing that time alone would do: a ring ends, consent ends, the window changes or
-- the seconds return to 0".
use Rattle.std.specs.Prelude.{ℕ, suc, ◌-◌, ◌≤◌, ◌<◌, ◌≡◌, true, false, Result, Ok, Err}
use Rattle.sizes.specs.Sizes.{window}
use Rattle.unit.specs.declared.TagUnit.{TagUnit}
use Rattle.unit.specs.declared.Sound.{Sound}
use Rattle.unit.specs.declared.Refusal.{Refusal}
use Rattle.unit.specs.WellFormed.{well_formed}
use Rattle.time.specs.Time.{one_tenth, tenths}

-- what the next tenth does, of these four
pub data Happens (u : TagUnit) : Type 0 where
  ring_ends : (u.sound ≡ Sound.Silent → ⊥) → (one_tenth u).sound ≡ Sound.Silent → Happens u
  consent_ends : 0 < u.consent → (one_tenth u).consent ≡ 0 → Happens u
  window_changes : (window (one_tenth u).clock.seconds ≡ window u.clock.seconds → ⊥) → Happens u
  seconds_return : 0 < u.clock.seconds → (one_tenth u).clock.seconds ≡ 0 → Happens u

-- the unit so many single tenths later
abbrev pub later_by : ℕ → TagUnit → TagUnit
later_by n u = (tenths n u).unit

-- "It must be the smallest such number, and from 1 to 10,240 on any well-formed unit, since a window lasts 1,024 seconds": one of the four
-- happens at the n-th tenth, and none before it
pub record Soonest (u : TagUnit) (n : ℕ) : Type 0 where
  pub least : 1 ≤ n
  pub most : n ≤ 10240
  pub happens : Happens (later_by (n - 1) u)
  pub nothing_before : (m : ℕ) → suc m < n → Happens (later_by m u) → ⊥

-- what the call gives: the tenths until then, or why they are not told
abbrev pub Sleep : Type 0
Sleep = Result ℕ Refusal

-- What the call promises: that number, or refusal 2
pub record Sleeps (u : TagUnit) (s : Sleep) : Type 0 where
  pub until : well_formed u ≡ true → (n : ℕ) × (s ≡ Ok n) × Soonest u n
  pub refused : well_formed u ≡ false → s ≡ Err Refusal.NotWellFormed
