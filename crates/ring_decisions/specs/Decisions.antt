-- What a legal ring, 0x05, comes to on what sounds, with the mask of reachable parts.
use Rattle.std.specs.Prelude.{ℕ, Bool, cond, eqb}
use Rattle.std.specs.Int.Bits.{bit_and}
use Rattle.unit.specs.declared.Sound.{Sound}
use Rattle.ring_decisions.specs.declared.Decision.{Decision}

-- "unreachable parts are dropped from the mask"
abbrev pub reached : ℕ → ℕ → ℕ
reached mask reach = bit_and mask reach

-- "every requested part is out of reach", "every sounding part is unreachable"
abbrev pub out_of_reach : ℕ → ℕ → Bool
out_of_reach mask reach = eqb (reached mask reach) 0

-- "A stop fails when every sounding part is unreachable, and otherwise silences all; while silent it succeeds as before"
abbrev pub stop_decision : Sound → ℕ → Decision
stop_decision Sound.Silent reach = Decision.Stopped
stop_decision (Sound.Ringing mask volume left) reach = cond (out_of_reach mask reach) Decision.Failed Decision.Stopped

-- "The ring decision now answers started, or failed (status 0x01) when every requested part is out of reach": on what sounds, with the mask
-- that is asked for, where 0 asks for a stop, and the mask of reachable parts
unfoldable pub ring_decision : Sound → ℕ → ℕ → Decision
ring_decision sound mask reach =
    cond (eqb mask 0) (stop_decision sound reach)
    (cond (out_of_reach mask reach) Decision.Failed (Decision.Started (reached mask reach)))
