-- "We want the reader that matches the writer": both round trips, and the first wrong byte without an algorithm, over the identifier's length.
-- Proved in proofs/ReadBack.
use Rattle.std.specs.Prelude.{None}
use Rattle.std.specs.Prelude.{ℕ, ◌+◌, ◌≤◌, ◌<◌, ◌≡◌, ◌⊎◌, Bool, true, List, [], ◌++◌, length, take}
use Rattle.frame.specs.Frame.{rendered, flags_for}
use Rattle.frame_reader.specs.Reader.{Parts, reads, refused, wrong_byte, frame_of, read_frame}
use Rattle.frame_opener.specs.Opener.{Opened, wrong_size, read_frame_with_r}

-- The parts of which the writer makes frames: any identifier of `size` bytes, any flags byte, and "our writer never omits flags under protection"
pub record Sendable (size : ℕ) (p : Parts) : Type 0 where
  pub sized : length p.identifier ≡ size
  pub shown : p.protected ≡ true → p.flags ≡ None → ⊥

-- a frame is what the writer makes of such parts; a frame of this r, what it makes of them with the flags byte of a battery level
pub record FrameOf (size : ℕ) (p : Parts) (text : List ℕ) : Type 0 where
  pub sendable : Sendable size p
  pub written : text ≡ frame_of size p

pub record FrameWithR (size : ℕ) (r : List ℕ) (o : Opened) (text : List ℕ) : Type 0 where
  pub frame : FrameOf size o.parts text
  pub level : o.battery ≤ 3
  pub flags_are : o.parts.flags ≡ flags_for o.battery o.parts.protected r

abbrev pub IsFrame : ℕ → List ℕ → Type 0
IsFrame size text = (p : Parts) × FrameOf size p text

abbrev pub IsFrameWithR : ℕ → List ℕ → List ℕ → Type 0
IsFrameWithR size r text = (o : Opened) × FrameWithR size r o text

-- "the place of the first wrong byte; for a frame cut short that place is its length, for one too long the first byte too many; the earliest
-- counts": up to there the text begins a frame, and with the byte there it begins none; or the text ends there, a proper beginning of a frame
abbrev pub Begins : (List ℕ → Type 0) → List ℕ → Type 0
Begins Frame text = (rest : List ℕ) × Frame (text ++ rest)

pub record WrongInside (Frame : List ℕ → Type 0) (text : List ℕ) (i : ℕ) : Type 0 where
  pub inside : i < length text
  pub begins : Begins Frame (take i text)
  pub begins_none : Begins Frame (take (i + 1) text) → ⊥

pub record CutShort (Frame : List ℕ → Type 0) (text : List ℕ) (i : ℕ) : Type 0 where
  pub at_end : i ≡ length text
  pub rest : List ℕ
  pub missing : rest ≡ [] → ⊥
  pub begins : Frame (text ++ rest)

abbrev pub FirstWrongAt : (List ℕ → Type 0) → List ℕ → ℕ → Type 0
FirstWrongAt Frame text i = WrongInside Frame text i ⊎ CutShort Frame text i

pub record ReadBack (size : ℕ) : Type 0 where
  -- "Every frame that the tag sends reads back to what it was made from"
  pub written_reads : (p : Parts) → Sendable size p → read_frame size (frame_of size p) ≡ reads p
  -- "a frame that reads is rebuilt byte for byte"
  pub read_written : (text : List ℕ) (p : Parts) → read_frame size text ≡ reads p → FrameOf size p text
  -- refused with 8 at the first wrong byte, and exactly then
  pub refused_there : (text : List ℕ) (number place : ℕ) → read_frame size text ≡ refused number place
      → (number ≡ wrong_byte) × FirstWrongAt (IsFrame size) text place
  pub there_refused : (text : List ℕ) (place : ℕ) → FirstWrongAt (IsFrame size) text place → read_frame size text ≡ refused wrong_byte place

pub record ReadBackWithR (size : ℕ) (r : List ℕ) : Type 0 where
  -- "looked at only when the frame reads; refusal 1 if it isn't as long as its identifier"
  pub frame_first : (text : List ℕ) (number place : ℕ) → read_frame size text ≡ refused number place
      → read_frame_with_r size r text ≡ refused number place
  pub then_size : (text : List ℕ) (p : Parts) → read_frame size text ≡ reads p → (length r ≡ size → ⊥)
      → read_frame_with_r size r text ≡ refused wrong_size 0
  -- "the battery level is recovered too"
  pub written_reads : length r ≡ size → (id : List ℕ) (on : Bool) (battery : ℕ) → length id ≡ size → battery ≤ 3
      → read_frame_with_r size r (rendered size id on (flags_for battery on r))
      ≡ reads (record { parts = record { identifier = id; protected = on; flags = flags_for battery on r }; battery = battery })
  pub read_written : (text : List ℕ) (o : Opened) → read_frame_with_r size r text ≡ reads o → (length r ≡ size) × FrameWithR size r o text
  -- of a text that reads, r shows a wrong byte exactly where it is the first, of frames of this r
  pub refused_there : (text : List ℕ) (p : Parts) (number place : ℕ) → read_frame size text ≡ reads p → length r ≡ size
      → read_frame_with_r size r text ≡ refused number place → (number ≡ wrong_byte) × FirstWrongAt (IsFrameWithR size r) text place
  pub there_refused : (text : List ℕ) (p : Parts) (place : ℕ) → read_frame size text ≡ reads p → length r ≡ size
      → FirstWrongAt (IsFrameWithR size r) text place → read_frame_with_r size r text ≡ refused wrong_byte place
