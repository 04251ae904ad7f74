-- The values of a ring, 0x05: what is asked for, whether it is legal, and the bytes that tell what sounds.
use Rattle.std.specs.Prelude.{ℕ, Bool, false, cond, not, ◌&&◌, ◌||◌, List, ◌∷◌, eqb, leb, get_or, take, drop}
use Rattle.laws.specs.Bytes.{big_endian, number}
use Rattle.unit.specs.declared.Settings.{Settings}
use Rattle.unit.specs.declared.Sound.{Sound}
use Rattle.unit.specs.declared.Protection.{Protection}
use Rattle.sizes.specs.Sizes.{highest_volume, longest_ring}
use Rattle.unit.specs.Ringable.{ringable, inside}

-- "For 0x05 with protection and skip on, any tag passes"
abbrev pub skips : Protection → Bool
skips Protection.Off = false
skips (Protection.On skip) = skip

-- "0x05 data: mask, timeout (2 bytes), volume"
abbrev pub ring_data : ℕ
ring_data = 4

abbrev pub asked_mask : List ℕ → ℕ
asked_mask a = get_or a 0 0

abbrev pub asked_timeout : List ℕ → ℕ
asked_timeout a = number (take 2 (drop 1 a))

abbrev pub asked_volume : List ℕ → ℕ
asked_volume a = get_or a 3 0

-- "Mask 0xFF means that whole mask"
abbrev pub whole_mask : ℕ
whole_mask = 0xFF

abbrev pub ring_mask : Settings → List ℕ → ℕ
ring_mask s a = cond (eqb (asked_mask a) whole_mask) (ringable s.components) (asked_mask a)

-- "0x81 if, after that, the mask has a bit outside it, if 0xFF meets a unit with none, if volume exceeds 3, or if mask isn't 0 and
-- timeout isn't 1 to 6,000"; so "A stop ignores timeout"
abbrev pub all_of_none : Settings → List ℕ → Bool
all_of_none s a = eqb (asked_mask a) whole_mask && eqb (ringable s.components) 0

unfoldable pub ring_legal : Settings → List ℕ → Bool
ring_legal s a =
    inside (ring_mask s a) s.components
    && (not (all_of_none s a)
    && (leb (asked_volume a) highest_volume
    && (eqb (ring_mask s a) 0 || (leb 1 (asked_timeout a) && leb (asked_timeout a) longest_ring))))

-- "Volume is held as 0 where not selectable"
abbrev pub held_volume : Settings → List ℕ → ℕ
held_volume s a = cond (eqb s.selectable 0) 0 (asked_volume a)

-- "mask and tenths left; zeros when silent"
abbrev pub sound_state : Sound → List ℕ
sound_state Sound.Silent = 0 ∷ big_endian 2 0
sound_state (Sound.Ringing mask volume left) = mask ∷ big_endian 2 left
