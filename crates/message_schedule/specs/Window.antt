-- The sixteen words of the message schedule (FIPS 180-4, §6.2.2, step 1) that one buffer holds at each step, and what steps that change it
-- in place promise.
use Rattle.std.specs.Prelude.{ℕ, ◌+◌, ◌-◌, ◌%◌, ◌≤◌, ◌<◌, ◌≡◌, List, length, get_or}
use Rattle.message_schedule.specs.Schedule.{W}

-- Before step t the sixteen words of the buffer w are the schedule's words t - 16 to t - 1, and words 0 to 15 up to step 16 (the difference
-- is 0 there). Word s stands at place s modulo 16.
unfoldable pub Holds : List ℕ → ℕ → List ℕ → Type 0
Holds M t w = (length w ≡ 16) × ((s : ℕ) → t - 16 ≤ s → s < t - 16 + 16 → get_or w (s % 16) 0 ≡ W M s)

-- Word t is given, and the buffer w has become the one of the next step: for every block M whose words w holds.
abbrev pub Made : ℕ → List ℕ → List ℕ → ℕ → Type 0
Made t w w' x = (M : List ℕ) → length M ≡ 16 → Holds M t w → Holds M (t + 1) w' × (x ≡ W M t)
