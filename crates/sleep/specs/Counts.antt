-- The counts that the code compares. No promise of a public call cites them: a law joins their least to the one-tenth rule (proofs/LeastCount).
use Rattle.std.specs.Prelude.{ℕ, ◌-◌, ◌*◌, ◌%◌, cond, eqb, ltb}
use Rattle.sizes.specs.Sizes.{window_length}
use Rattle.unit.specs.declared.TagUnit.{TagUnit}
use Rattle.unit.specs.declared.Clock.{Clock}
use Rattle.unit.specs.declared.Sound.{Sound}

-- the tenths until the window changes
abbrev pub window_left : Clock → ℕ
window_left c = (window_length - c.seconds % window_length) * 10 - c.tenth

-- a count that runs, where it is not 0 and ends sooner than n
abbrev pub or_sooner : ℕ → ℕ → ℕ
or_sooner count n = cond (eqb count 0) n (cond (ltb count n) count n)

abbrev pub left_of : Sound → ℕ
left_of Sound.Silent = 0
left_of (Sound.Ringing mask volume left) = left

abbrev pub soonest_of : TagUnit → ℕ
soonest_of u = or_sooner (left_of u.sound) (or_sooner u.consent (window_left u.clock))
