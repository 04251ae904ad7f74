-- What the functions of this crate promise, over the types of the code.
use Rattle.std.specs.Prelude.{ℕ, ◌≤◌, ◌≡◌, List, take, ℤ}
use Rattle.std.specs.Prelude.{Option, None, Some}
use Rattle.reading.specs.Reading.{after}
use Rattle.events.specs.Promises.{event_of}
use Rattle.lines.specs.declared.Awaited as code
use Rattle.lines.specs.declared.Awaited.TheVariants as awaited
use Rattle.lines.specs.declared.Next.{Next}
use Rattle.lines.specs.declared.Next.TheVariants as next
use Rattle.lines.specs.declared.Line as told
use Rattle.lines.specs.declared.Line.TheVariants as told_as
use Rattle.lines.specs.declared.Told.{Told}
use Rattle.lines.specs.Lines as lines
use Rattle.lines.specs.Lines.{Awaited, Expected, inside, power, components, volume, nonce, «data», reach, tenths, on, level, key_bytes, Line, follows, brings, sets_up, breaks, given}

-- what is expected, with what was read before it
abbrev pub awaiting : code.Awaited → ℤ → ℕ → List ℕ → Awaited
awaiting awaited.Power p c b = power
awaiting awaited.Components p c b = components p
awaiting awaited.Volume p c b = volume p c
awaiting awaited.Nonce p c b = nonce
awaiting awaited.Data p c b = «data»
awaiting awaited.Reach p c b = reach b
awaiting awaited.Tenths p c b = tenths
awaiting awaited.On p c b = on
awaiting awaited.Level p c b = level
awaiting awaited.KeyBytes p c b = key_bytes

abbrev pub expecting : Next → ℤ → ℕ → List ℕ → Expected
expecting next.Event p c b = lines.event
expecting (next.Inside a) p c b = inside (awaiting a p c b)

-- a line of the code, with what was read before it, its number and its bytes
abbrev pub line_of : told.Line → ℤ → ℕ → List ℕ → ℕ → List ℕ → Line
line_of (told_as.Power z) p c kept n b = follows (components z)
line_of told_as.Components p c kept n b = follows (volume p n)
line_of told_as.Volume p c kept n b = sets_up p c n
line_of (told_as.Follows a) p c kept n b = follows (awaiting a p c kept)
line_of (told_as.Keeps a) p c kept n b = follows (awaiting a p c b)
line_of (told_as.Brings e) p c kept n b = brings (event_of e n kept b)

-- the same of one that may be none: it breaks the order
abbrev pub line_or : Option told.Line → ℤ → ℕ → List ℕ → ℕ → List ℕ → Line
line_or None p c kept n b = breaks
line_or (Some line) p c kept n b = line_of line p c kept n b

abbrev pub told_or : Option Told → ℤ → ℕ → List ℕ → List ℕ → Line
told_or None p c kept bytes = breaks
told_or (Some t) p c kept bytes = line_of t.line p c kept t.number (take t.count bytes)

-- the bytes of it that stand at the front of those lent
abbrev pub count_of : Option Told → ℕ
count_of None = 0
count_of (Some t) = t.count

-- a line of the code stands for this one, whatever was read before and stands beside it
pub record Means (l : Line) (line : Option told.Line) : Type 0 where
  pub line_is : (p : ℤ) (c : ℕ) (kept : List ℕ) (n : ℕ) (b : List ℕ) → line_or line p c kept n b ≡ l

-- the same of one with its bytes, and of one with its number alone: no bytes stand beside it
pub record Says (l : ℤ → ℕ → List ℕ → Line) (t : Option Told) (bytes : List ℕ) : Type 0 where
  pub line_is : (p : ℤ) (c : ℕ) (kept : List ℕ) → told_or t p c kept bytes ≡ l p c kept
  pub within_room : count_of t ≤ 128

pub record SaysNumber (l : ℤ → ℕ → List ℕ → Line) (t : Option Told) : Type 0 where
  pub says : (bytes : List ℕ) → Says l t bytes
  pub no_bytes : count_of t ≡ 0

-- the line that a value behind a key makes
module _ {A : Type 0} where
  abbrev pub value_line : List ℕ → (List ℕ → Option A) → (A → Line) → List ℕ → Line
  value_line name f g l = given (after name l) (λ v. given (f v) g)
