-- The judgements of 0x05 and 0x06, from what their handlers test.
use Prim.Native.Nat.{ℕ}
use mathlib.Core.Path.{◌≡◌}
use mathlib.Core.Bool.{true, false, ◌||◌}
use mathlib.Core.List.{List, ◌∷◌}
use Rattle.wire.specs.Signing.{ring_key, signed, ring_id, notice_data, ring_notice, started, failed, by_request}
use Rattle.wire.specs.Shape.{Request}
use Rattle.unit.specs.Change.{with_sound, silenced}
use Rattle.unit.specs.declared.TagUnit.{TagUnit}
use Rattle.unit.specs.declared.Sound.{Sound}
use Rattle.authentication.specs.Judgement.{accepts, not_authenticated, invalid_value, last_nonce, tagged, answered}
use Rattle.ring_values.specs.RingValues.{skips, asked_timeout, ring_mask, ring_legal, held_volume, sound_state}
use Rattle.ring_decisions.specs.Decisions.{ring_decision}
use Rattle.ring_decisions.specs.declared.Decision.{Decision}
use Rattle.ringing.specs.Ringing.{rung, ring, read_sound}

module _ (u : TagUnit) where
  module _ {decision : Decision} (volume left : ℕ) {next : TagUnit} {payload : List ℕ} where
    pub rung_ring : {mask : ℕ} → decision ≡ Decision.Started mask → next ≡ with_sound (Sound.Ringing mask volume left) (last_nonce u) u
        → payload ≡ notice_data started mask left → rung decision u volume left
        ≡ accepts next (signed (ring_key u.identity.bytes) (last_nonce u) ring_id payload)
    unfolding rung ring_notice
    rung_ring is changed d = rw (changed, d, is)

    pub rung_stop : decision ≡ Decision.Stopped → next ≡ silenced u → payload ≡ notice_data by_request 0 0
        → rung decision u volume left
        ≡ accepts next (signed (ring_key u.identity.bytes) (last_nonce u) ring_id payload)
    unfolding rung ring_notice
    rung_stop is changed d = rw (changed, d, is)

  pub rung_fail : {decision : Decision} (volume left : ℕ) {payload : List ℕ} → decision ≡ Decision.Failed → payload ≡ failed ∷ sound_state u.sound
      → rung decision u volume left
      ≡ accepts u (signed (ring_key u.identity.bytes) (last_nonce u) ring_id payload)
  unfolding rung
  rung_fail volume left is d = rw (d, is)

  module _ (q : Request) (reach : ℕ) where
    pub ring_kept_out : skips u.protection || tagged (ring_key u.identity.bytes) (last_nonce u) q ≡ false → ring u q reach ≡ not_authenticated
    unfolding ring
    ring_kept_out unmet = rw unmet

    module _ (met : skips u.protection || tagged (ring_key u.identity.bytes) (last_nonce u) q ≡ true) where
      pub ring_values_lem : ring_legal u.settings q.additional ≡ false → ring u q reach ≡ invalid_value
      unfolding ring
      ring_values_lem unmet = rw (met, unmet)

      pub ring_rung : {mask volume left : ℕ} {decision : Decision} → ring_legal u.settings q.additional ≡ true → mask ≡ ring_mask u.settings q.additional
          → volume ≡ held_volume u.settings q.additional → left ≡ asked_timeout q.additional
          → decision ≡ ring_decision u.sound mask reach → ring u q reach ≡ rung decision u volume left
      unfolding ring
      ring_rung legal m v l d = rw (d, m, v, l, met, legal)

  module _ (q : Request) where
    pub sound_untagged : tagged (ring_key u.identity.bytes) (last_nonce u) q ≡ false → read_sound u q ≡ not_authenticated
    unfolding read_sound
    sound_untagged unmet = rw unmet

    pub sound_read_lem : {payload : List ℕ} → tagged (ring_key u.identity.bytes) (last_nonce u) q ≡ true → payload ≡ sound_state u.sound
        → read_sound u q ≡ accepts u (answered (ring_key u.identity.bytes) u q payload)
    unfolding read_sound
    sound_read_lem met d = rw (met, d)
