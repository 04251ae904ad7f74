-- What a press of the button does on a unit that passed the guards.
use Rattle.std.specs.Prelude.{[]}
use Rattle.sizes.specs.Sizes.{full_consent}
use Rattle.unit.specs.declared.TagUnit.{TagUnit}
use Rattle.unit.specs.declared.Sound.{Sound}
use Rattle.unit.specs.Change.{silenced, with_consent, key_in_force}
use Rattle.unit.specs.Outcome.{Outcome, giving}
use Rattle.wire.specs.Signing.{stop_notice, by_button}

-- Button: "A press while ringing stops it, status 3, and gives no consent. A press while silent sets consent to 600 (house)"; its notice
-- uses "the nonce of the accepted ring"
unfoldable pub pressed : Sound → TagUnit → Outcome
pressed Sound.Silent u = giving [] (with_consent full_consent u)
pressed (Sound.Ringing mask volume left) u = giving (stop_notice (key_in_force u) u.ring_nonce by_button) (silenced u)
