-- The request 0x04: recovering the identity key. It is judged on the unit with its nonce spent, and only with an identity key.
use Rattle.std.specs.Prelude.{◌||◌, ltb}
use Rattle.wire.specs.Signing.{recovery_key}
use Rattle.wire.specs.Shape.{Request}
use Rattle.key_blocks.specs.KeyBlocks.{encrypted_key}
use Rattle.unit.specs.declared.TagUnit.{TagUnit}
use Rattle.unit.specs.WellFormed.{owner_key}
use Rattle.unit.specs.Change.{key_in_force}
use Rattle.authentication.specs.Judgement.{Judgement, accepts, not_authenticated, no_consent, unless, under, last_nonce, tagged, answered}

-- 0x04: "recovery key; then consent left or pairing on. Data: the identity key, two blocks encrypted with the owner key. Consent isn't
-- used up"
unfoldable pub recover_key : TagUnit → Request → Judgement
recover_key u q =
    under (owner_key u.accounts)
    (λ key.
    unless (tagged (recovery_key (key_in_force u)) (last_nonce u) q) not_authenticated
    (unless (ltb 0 u.consent || u.pairing) no_consent
    (accepts u (answered (recovery_key (key_in_force u)) u q (encrypted_key key (key_in_force u))))))
