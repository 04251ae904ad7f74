-- The requests 0x05 and 0x06: ring, stop, and read what rings. Each is judged on the unit with its nonce spent, and only with an
-- identity key; 0x05 also by the mask of reachable parts that the host lends with the write.
use Rattle.std.specs.Prelude.{ℕ, ◌||◌, List, ◌∷◌}
use Rattle.wire.specs.Signing.{ring_key, ring_id, signed, ring_notice, stop_notice, started, failed, by_request}
use Rattle.wire.specs.Shape.{Request}
use Rattle.unit.specs.declared.TagUnit.{TagUnit}
use Rattle.unit.specs.declared.Sound.{Sound}
use Rattle.unit.specs.Change.{with_sound, silenced, key_in_force}
use Rattle.authentication.specs.Judgement.{Judgement, accepts, not_authenticated, invalid_value, unless, last_nonce, tagged, answered}
use Rattle.ring_values.specs.RingValues.{skips, asked_timeout, ring_mask, ring_legal, held_volume, sound_state}
use Rattle.ring_decisions.specs.Decisions.{ring_decision}
use Rattle.ring_decisions.specs.declared.Decision.{Decision}

-- "its notice carries the old mask and tenths left", signed with the nonce of its write
abbrev pub fail_notice : TagUnit → List ℕ
fail_notice u = signed (ring_key (key_in_force u)) (last_nonce u) ring_id (failed ∷ sound_state u.sound)

-- "The answer to 0x05 is a ring notice"; "a stop by write uses its own" nonce. "A ring replaces the old one with no stop notice", and
-- keeps the nonce of its write beside it. "A failed start or stop changes neither an old ring nor its timer"
unfoldable pub rung : Decision → TagUnit → ℕ → ℕ → Judgement
rung (Decision.Started mask) u volume left =
    accepts (with_sound (Sound.Ringing mask volume left) (last_nonce u) u)
    (ring_notice (key_in_force u) (last_nonce u) started mask left)
rung Decision.Stopped u volume left = accepts (silenced u) (stop_notice (key_in_force u) (last_nonce u) by_request)
rung Decision.Failed u volume left = accepts u (fail_notice u)

-- the values are judged on the mask that is asked for, before the reach
unfoldable pub ring : TagUnit → Request → ℕ → Judgement
ring u q reach =
    unless (skips u.protection || tagged (ring_key (key_in_force u)) (last_nonce u) q) not_authenticated
    (unless (ring_legal u.settings q.additional) invalid_value
    (rung (ring_decision u.sound (ring_mask u.settings q.additional) reach) u
    (held_volume u.settings q.additional) (asked_timeout q.additional)))

-- 0x06 data
unfoldable pub read_sound : TagUnit → Request → Judgement
read_sound u q =
    unless (tagged (ring_key (key_in_force u)) (last_nonce u) q) not_authenticated
    (accepts u (answered (ring_key (key_in_force u)) u q (sound_state u.sound)))
