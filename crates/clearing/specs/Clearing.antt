-- The request 0x03: clearing the identity key. It is judged on the unit with its nonce spent, and only with an identity key.
use Rattle.std.specs.Prelude.{[]}
use Rattle.wire.specs.Shape.{Request}
use Rattle.unit.specs.declared.TagUnit.{TagUnit}
use Rattle.unit.specs.Change.{fresh, with_clock, with_nonces, with_battery, with_pairing}
use Rattle.authentication.specs.Judgement.{Judgement, accepts, not_authenticated, unless, under, proves, answered, signed_by_owner}

-- 0x03: "The unit becomes fresh, keeping settings, clock, last nonce (spent), battery and pairing (house)"; so "0x03 drops both" keys
unfoldable pub cleared : TagUnit → TagUnit
cleared u =
    with_clock u.clock (with_nonces u.nonces (with_battery u.battery (with_pairing u.pairing (fresh u.settings))))

-- "owner key and key proof"
unfoldable pub clear_key : TagUnit → Request → Judgement
clear_key u q =
    under (signed_by_owner u q)
    (λ key. unless (proves u q.additional) not_authenticated (accepts (cleared u) (answered key u q [])))
