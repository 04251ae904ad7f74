-- "Replay file": the lines, which one is to stand next, and what each brings.
use Rattle.std.specs.Prelude.{ℕ, cond, List, ℤ}
use Rattle.std.specs.Prelude.{Option, None, Some}
use Rattle.laws.specs.Bytes.{same_bytes}
use Rattle.tag.specs.Calls.{read, write, button, pairing, battery, account_key, disconnect, frame}
use Rattle.notation.specs.Text.{ascii}
use Rattle.reading.specs.Reading.{after, unsigned, signed, flag}
use Rattle.hex_reading.specs.Hex.{bytes, one_byte}
use Rattle.events.specs.Event.{Event, asks, elapsed}

-- "First the three settings, then events, each followed by its own lines": a line of the settings or of an event, with what was read
-- before it
pub data Awaited : Type 0 where
  power : Awaited
  components : ℤ → Awaited
  volume : ℤ → ℕ → Awaited
  nonce : Awaited
  «data» : Awaited
  reach : List ℕ → Awaited
  tenths : Awaited
  on : Awaited
  level : Awaited
  key_bytes : Awaited

-- "key=value lines in a fixed order": which line is to stand next, an event's name or one inside the settings or an event
pub data Expected : Type 0 where
  event : Expected
  inside : Awaited → Expected

-- what a line brings: that another line is to follow, a whole event, all three settings, or that it breaks the order
pub data Line : Type 0 where
  follows : Awaited → Line
  brings : Event → Line
  sets_up : ℤ → ℕ → ℕ → Line
  breaks : Line

-- go on with a value, if there is one
module _ {A : Type 0} where
  abbrev pub given : Option A → (A → Line) → Line
  given None f = breaks
  given (Some a) f = f a

-- an event by its name
unfoldable pub named : List ℕ → Line
named name =
    cond (same_bytes name (ascii "read")) (follows nonce)
    (cond (same_bytes name (ascii "write")) (follows «data»)
    (cond (same_bytes name (ascii "elapsed")) (follows tenths)
    (cond (same_bytes name (ascii "button")) (brings (asks button))
    (cond (same_bytes name (ascii "pairing")) (follows on)
    (cond (same_bytes name (ascii "battery")) (follows level)
    (cond (same_bytes name (ascii "key")) (follows key_bytes)
    (cond (same_bytes name (ascii "disconnect")) (brings (asks disconnect))
    (cond (same_bytes name (ascii "frame")) (brings (asks frame)) breaks))))))))

-- a line inside the settings or an event: the value behind its key
unfoldable pub held : Awaited → List ℕ → Line
held power l = given (after (ascii "power=") l) (λ v. given (signed v) (λ p. follows (components p)))
held (components p) l = given (after (ascii "components=") l) (λ v. given (unsigned v) (λ c. follows (volume p c)))
held (volume p c) l = given (after (ascii "volume=") l) (λ v. given (unsigned v) (λ s. sets_up p c s))
held nonce l = given (after (ascii "nonce=") l) (λ v. given (bytes v) (λ b. brings (asks (read b))))
held «data» l = given (after (ascii "data=") l) (λ v. given (bytes v) (λ b. follows (reach b)))
held (reach b) l = given (after (ascii "reach=") l) (λ v. given (one_byte v) (λ n. brings (asks (write (record { bytes = b; reach = n })))))
held tenths l = given (after (ascii "tenths=") l) (λ v. given (unsigned v) (λ n. brings (elapsed n)))
held on l = given (after (ascii "on=") l) (λ v. given (flag v) (λ b. brings (asks (pairing b))))
held level l = given (after (ascii "level=") l) (λ v. given (unsigned v) (λ n. brings (asks (battery n))))
held key_bytes l = given (after (ascii "bytes=") l) (λ v. given (bytes v) (λ b. brings (asks (account_key b))))

-- a line where one is expected
unfoldable pub taken : Expected → List ℕ → Line
taken event l = given (after (ascii "event=") l) named
taken (inside a) l = held a l
