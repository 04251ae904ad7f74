-- "Buttons and time": one tenth, as a rule, and any number of tenths as that rule again and again.
use Rattle.std.specs.Prelude.{ℕ, zero, suc, ◌+◌, ◌-◌, ◌%◌, ◌^◌, Bool, false, cond, List, [], eqb, leb}
use Rattle.laws.specs.Answer.{gives}
use Rattle.unit.specs.declared.TagUnit.{TagUnit}
use Rattle.unit.specs.declared.Clock.{Clock}
use Rattle.unit.specs.declared.Sound.{Sound}
use Rattle.unit.specs.Change.{with_clock, with_sound, with_consent, silenced, key_in_force}
use Rattle.unit.specs.Outcome.{Outcome, giving}
use Rattle.wire.specs.Signing.{stop_notice, timed_out}

-- "clock on by one": seconds as 32 bits, and a tenth 0 to 9; "after the last second it returns to 0 on purpose"
unfoldable pub clock_on : Clock → Clock
clock_on c =
    cond (eqb c.tenth 9)
    (record { seconds = (c.seconds + 1) % 2 ^ 32; tenth = 0 })
    (record { seconds = c.seconds; tenth = c.tenth + 1 })

-- "ring left less one, and at 0 silent with a status 2 notice"
abbrev pub ends_next : Sound → Bool
ends_next Sound.Silent = false
ends_next (Sound.Ringing mask volume left) = leb left 1

abbrev pub sound_on : Sound → Sound
sound_on Sound.Silent = Sound.Silent
sound_on (Sound.Ringing mask volume left) = Sound.Ringing mask volume (left - 1)

unfoldable pub ring_on : TagUnit → TagUnit
ring_on u = cond (ends_next u.sound) (silenced u) (with_sound (sound_on u.sound) u.ring_nonce u)

-- "consent less one unless 0" (the difference of natural numbers is 0 there)
unfoldable pub one_tenth : TagUnit → TagUnit
one_tenth u = with_clock (clock_on u.clock) (with_consent (u.consent - 1) (ring_on u))

-- the notice of that tenth, where a ring ends in it, with "the nonce of the accepted ring"
unfoldable pub timeout_notice : TagUnit → List ℕ
timeout_notice u = stop_notice (key_in_force u) u.ring_nonce timed_out

-- "A call takes any 32-bit number of tenths, equals that many single tenths, and reports the tenth, counted from the call's start, at
-- which a ring ended, or 0"
unfoldable pub after_tenth : ℕ → Outcome → Outcome
after_tenth n o =
    cond (ends_next o.unit.sound)
    (record { unit = one_tenth o.unit; result = gives (timeout_notice o.unit); ended = suc n })
    (record { unit = one_tenth o.unit; result = o.result; ended = o.ended })

unfoldable pub tenths : ℕ → TagUnit → Outcome
tenths zero u = giving [] u
tenths (suc n) u = after_tenth n (tenths n u)
