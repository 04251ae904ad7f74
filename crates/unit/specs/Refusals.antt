-- "The refusal list": the number of each refusal, and how the end of a call is read.
use Rattle.std.specs.Prelude.{ℕ, length, Ok, Err}
use Rattle.laws.specs.Answer.{Result, gives, refuses}
use Rattle.unit.specs.declared.Refusal.{Refusal}
use Rattle.unit.specs.declared.Refusal.TheVariants.{NotAuthenticated, InvalidValue, NoConsent, OutOfRange, NotWellFormed, WrongNonce, WrongAccountKey, NoFrame, NoRoom}
use Rattle.unit.specs.Types.{Reply}

-- The number of each case of the code's enum. The definitions of the calls say the paper's number themselves, at each place where it is
-- given; every promise holds the two against each other
abbrev pub refusal_number : Refusal → ℕ
refusal_number NotAuthenticated = 0x80
refusal_number InvalidValue = 0x81
refusal_number NoConsent = 0x82
refusal_number OutOfRange = 1
refusal_number NotWellFormed = 2
refusal_number WrongNonce = 3
refusal_number WrongAccountKey = 4
refusal_number NoFrame = 5
refusal_number NoRoom = 6

-- How a call ended: with a count of answer bytes written, or with the number of a refusal
pub data End : Type 0 where
  wrote : ℕ → End
  refused : ℕ → End

abbrev pub end_of : Reply → End
end_of (Ok n) = wrote n
end_of (Err r) = refused (refusal_number r)

abbrev pub ending : Result → End
ending (gives answer) = wrote (length answer)
ending (refuses n) = refused n
