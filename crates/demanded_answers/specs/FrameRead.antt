-- 2026-02: the reader matches what the tag sends. "Every frame that the tag sends reads back to what it was made from, and a frame that reads is
-- rebuilt byte for byte."
use Rattle.std.specs.Prelude.{Option}
use Rattle.std.specs.Prelude.{ℕ, ◌≡◌, Bool, true, false, List}
use Rattle.laws.specs.Answer.{gives}
use Rattle.unit.specs.declared.TagUnit.{TagUnit}
use Rattle.unit.specs.declared.Protection.{Protection}
use Rattle.frame_reader.specs.Reader.{Parts, reads, wrong_byte, read_frame}
use Rattle.frame_opener.specs.Opener.{wrong_size, read_frame_with_r}
use Rattle.frame_laws.specs.ReadBack.{ReadBack, ReadBackWithR}
use Rattle.tag.specs.Calls.{frame, calls}
use Rattle.demanded_answers.specs.EphemeralIdentifier.{identifier_of, cut_r}
use Rattle.demanded_answers.specs.History.{step}

abbrev pub is_protected : Protection → Bool
is_protected Protection.Off = false
is_protected (Protection.On skip) = true

-- a text reads to the identifier and the protection of a unit, and with its r to its battery level; the flags byte is the same both times
pub record ReadsToUnit (u : TagUnit) (text : List ℕ) : Type 0 where
  pub flags : Option ℕ
  pub read : read_frame 20 text ≡ reads (record { identifier = identifier_of u; protected = is_protected u.protection; flags = flags })
  pub read_with_r : read_frame_with_r 20 (cut_r u) text
      ≡ reads
      (record {
        parts = record { identifier = identifier_of u; protected = is_protected u.protection; flags = flags };
        battery = u.battery;
      })

pub record FrameRead : Type 0 where
  -- whatever the unit, if the call `frame` gives a text
  pub sent_reads : (u : TagUnit) (room : ℕ) (text : List ℕ) → (step (calls frame room) u).result ≡ gives text → ReadsToUnit u text
  -- any text: both round trips, and refused exactly at the first wrong byte
  pub any_text : ReadBack 20
  pub any_text_with_r : (r : List ℕ) → ReadBackWithR 20 r
  -- "refuses with 8, new in the list"; of r, "refusal 1 if it isn't as long as its identifier"
  pub byte_refusal : wrong_byte ≡ 8
  pub size_refusal : wrong_size ≡ 1
