-- How a public call of hash or cipher ends: the bytes of the standard, or refusal 7.
use Rattle.std.specs.Prelude.{ℕ, ◌≡◌, Bool, cond, List, Ok, Err}
use Rattle.std.specs.Prelude as std
use Rattle.laws.specs.Answer.{Result, gives, refuses, lent_after}
use Rattle.lent_answer.specs.declared.WrongSize.{WrongSize}

-- "7: message or HMAC key over 65,535 bytes; AES key or block not 16 bytes; hash answer not 32 bytes, block answer not 16"
unfoldable pub or_refusal : Bool → List ℕ → Result
or_refusal ok answer = cond ok (gives answer) (refuses 7)

-- The end of a call: it is done, or a size is wrong
abbrev pub Ending : Type 0
Ending = std.Result Unit WrongSize

-- The paper's number for each end of a call: 0 where it is no refusal
abbrev pub end_number : Ending → ℕ
end_number (Ok done) = 0
end_number (Err size) = 7

abbrev pub number_of : Result → ℕ
number_of (gives answer) = 0
number_of (refuses n) = n

-- What a call promises of its end and of all the lent bytes, which were `before` and are `after`
pub record Ends (result : Result) (end : Ending) (before after : List ℕ) : Type 0 where
  pub end_is : end_number end ≡ number_of result
  pub bytes_are : after ≡ lent_after result before
