-- The paper's "Examples at the edges" that are marked P, as rows of one table under one claim: what the definitions give, and what the
-- paper says, as lists of numbers.
use Rattle.std.specs.Prelude.{ℕ, ◌≡◌, true, false, List, [], ◌∷◌, ◌++◌, pos, negsuc}
use Rattle.laws.specs.Answer.{Result, gives, refuses}
use Rattle.unit.specs.declared.TagUnit.{TagUnit}
use Rattle.unit.specs.declared.Settings.{Settings}
use Rattle.unit.specs.declared.Sound.{Sound}
use Rattle.unit.specs.declared.Protection.{Protection}
use Rattle.sizes.specs.Sizes.{window}
use Rattle.unit.specs.Change.{fresh, with_sound, with_clock, with_protection}
use Rattle.parameter_read.specs.Parameters.{wire_byte}
use Rattle.laws.specs.Bytes.{big_endian}
use Rattle.authentication.specs.Judgement.{Judgement, accepts, rejects}
use Rattle.ring_values.specs.RingValues.{ring_mask}
use Rattle.ringing.specs.Ringing.{ring}
use Rattle.settings_calls.specs.Settings.{new_unit}
use Rattle.time.specs.Time.{tenths, one_tenth}
use Rattle.frame.specs.Frame.{flags_before_xor}
use Rattle.demanded_answers.specs.Accepted.{ringable}

abbrev pub settings : ℕ → Settings
settings components = record { power = pos 0; components = components; selectable = 1 }

-- the refusal number, or 0
abbrev pub refusal : Result → ℕ
refusal (gives answer) = 0
refusal (refuses n) = n

-- the refusal of a judgement, or 0
abbrev pub refused_by : Judgement → ℕ
refused_by (accepts u answer) = 0
refused_by (rejects n) = n

-- mask, timeout and volume 0, as the four data bytes of a 0x05
abbrev pub request : ℕ → ℕ → List ℕ
request mask timeout = mask ∷ big_endian 2 timeout ++ (0 ∷ [])

-- the judgement of that 0x05 on a unit under protection with the skip flag, where any tag passes, with every part in reach
abbrev pub rung : ℕ → ℕ → ℕ → Judgement
rung components mask timeout =
    ring (with_protection (Protection.On true) (fresh (settings components)))
    (record { id = 0x05; size = 12; tag = []; additional = request mask timeout })
    (ringable components)

abbrev pub ringing : ℕ → TagUnit
ringing left = with_sound (Sound.Ringing 1 0 left) [] (fresh (settings 1))

abbrev pub left_of : Sound → ℕ
left_of Sound.Silent = 0
left_of (Sound.Ringing mask volume left) = left

abbrev pub last_clock : TagUnit
last_clock = with_clock (record { seconds = 4294967295; tenth = 9 }) (fresh (settings 1))

pub record Row : Type 0 where
  pub got : List ℕ
  pub want : List ℕ

abbrev pub row : List ℕ → List ℕ → Row
row g w = record { got = g; want = w }

unfoldable pub table : List Row
table =
    -- power -100, -1, 0, 20: bytes 9C, FF, 00, 14. -101 and 21: refusal 1
    row (wire_byte (negsuc 99) ∷ wire_byte (negsuc 0) ∷ wire_byte (pos 0) ∷ wire_byte (pos 20) ∷ []) (0x9C ∷ 0xFF ∷ 0x00 ∷ 0x14 ∷ [])
    ∷ row (refusal (new_unit (negsuc 99) 3 1).result ∷ refusal (new_unit (pos 20) 3 1).result ∷ []) (0 ∷ 0 ∷ [])
    ∷ row (refusal (new_unit (negsuc 100) 3 1).result ∷ refusal (new_unit (pos 21) 3 1).result ∷ []) (1 ∷ 1 ∷ [])
    -- timeout 6,000 passes; 6,001 and 0 don't; 0 with mask 0 passes
    ∷ row (refused_by (rung 1 1 6000) ∷ refused_by (rung 1 1 6001) ∷ refused_by (rung 1 1 0) ∷ []) (0 ∷ 0x81 ∷ 0x81 ∷ [])
    ∷ row (refused_by (rung 1 0 0) ∷ []) (0 ∷ [])
    -- 3 components, 0xFF: 0x07. 2 components, 0x04: 0x81. None, 0xFF: 0x81
    ∷ row (ring_mask (settings 3) (request 0xFF 1) ∷ refused_by (rung 3 0xFF 1) ∷ []) (0x07 ∷ 0 ∷ [])
    ∷ row (refused_by (rung 2 0x04 1) ∷ refused_by (rung 0 0xFF 1) ∷ []) (0x81 ∷ 0x81 ∷ [])
    -- ring left 5: 4 tenths leave 1; 5 end it at 5; 6 also at 5
    ∷ row (left_of (tenths 4 (ringing 5)).unit.sound ∷ (tenths 4 (ringing 5)).ended ∷ []) (1 ∷ 0 ∷ [])
    ∷ row (left_of (tenths 5 (ringing 5)).unit.sound ∷ (tenths 5 (ringing 5)).ended ∷ []) (0 ∷ 5 ∷ [])
    ∷ row (left_of (tenths 6 (ringing 5)).unit.sound ∷ (tenths 6 (ringing 5)).ended ∷ []) (0 ∷ 5 ∷ [])
    -- seconds 4,294,967,295, tenth 9, one more: 0 and 0
    ∷ row ((one_tenth last_clock).clock.seconds ∷ (one_tenth last_clock).clock.tenth ∷ []) (0 ∷ 0 ∷ [])
    -- window of 1,023 is 0; of 1,024 is 1,024
    ∷ row (window 1023 ∷ window 1024 ∷ []) (0 ∷ 1024 ∷ [])
    -- flags before XOR: battery 1 open 0x02; battery 3 protected 0x07; battery 0 protected 0x01
    ∷ row (flags_before_xor 1 false ∷ flags_before_xor 3 true ∷ flags_before_xor 0 true ∷ []) (0x02 ∷ 0x07 ∷ 0x01 ∷ [])
    ∷ []

abbrev pub Holds : List Row → Type 0
Holds [] = Unit {0}
Holds (r ∷ rs) = (r.got ≡ r.want) × Holds rs

-- The one claim
abbrev pub Edges : Type 0
Edges = Holds table
