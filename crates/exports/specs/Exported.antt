-- What the exported functions give: one number, and the record's bytes and the answer bytes after the call.
use Rattle.std.specs.Prelude.{ℕ, ◌+◌, ◌*◌, ◌^◌, ◌≡◌, Bool, true, false, cond, ◌||◌, List, eqb, length, Ok, Err}
use Rattle.laws.specs.Answer.{Result, gives, refuses, lent_after}
use Rattle.lent_answer.specs.Ends.{Ending, end_number}
use Rattle.unit.specs.declared.TagUnit.{TagUnit}
use Rattle.unit.specs.WellFormed.{well_formed}
use Rattle.unit.specs.Refusals.{End, wrote, refused}
use Rattle.unit.specs.Outcome.{Outcome, refusing}
use Rattle.unit.specs.Change.{no_unit}
use Rattle.sleep.specs.Sleep.{Soonest}
use Rattle.stored.specs.Record.{encoded, record_size}

-- the number of bytes written, or 256 and the refusal's number; and, 65,536 times, the tenth at which a ring ended
abbrev pub refusal_base : ℕ
refusal_base = 256

abbrev pub ended_base : ℕ
ended_base = 2 ^ 16

abbrev pub result_code : Result → ℕ
result_code (gives answer) = length answer
result_code (refuses n) = refusal_base + n

unfoldable pub code : Outcome → ℕ
code o = result_code o.result + o.ended * ended_base

-- a refusal that spends the nonce, and so changes the unit
abbrev pub spends : ℕ → Bool
spends n = eqb n 0x80 || (eqb n 0x81 || eqb n 0x82)

-- the record's bytes after a call: the new unit's; as they were where a refusal leaves the unit alone
abbrev pub bytes_after : Outcome → Result → List ℕ → List ℕ
bytes_after o (gives answer) before = encoded o.unit
bytes_after o (refuses n) before = cond (spends n) (encoded o.unit) before

unfoldable pub record_after : Outcome → List ℕ → List ℕ
record_after o before = bytes_after o o.result before

-- what an exported call promises: of a call without answer bytes, and of one with
pub record Exports (o : Outcome) (result : ℕ) (recordBefore recordNow : List ℕ) : Type 0 where
  pub code_is : result ≡ code o
  pub record_is : recordNow ≡ record_after o recordBefore

pub record ExportsAnswer (o : Outcome) (result : ℕ) (recordBefore recordNow before after : List ℕ) : Type 0 where
  pub code_is : result ≡ code o
  pub record_is : recordNow ≡ record_after o recordBefore
  pub bytes_are : after ≡ lent_after o.result before

-- a new record: refusal 2 for bytes of another length, else as for a new unit
abbrev pub new_in : List ℕ → Outcome → Outcome
new_in before made = cond (eqb (length before) record_size) made (refusing 2 no_unit)

-- what the exported sleep promises, of the unit that the record means; the record is only read
pub record ExportsSleep (u : TagUnit) (result : ℕ) : Type 0 where
  pub until : well_formed u ≡ true → (n : ℕ) × (result ≡ n * ended_base) × Soonest u n
  pub refused : well_formed u ≡ false → result ≡ refusal_base + 2

-- what an exported primitive promises
pub record ExportsDigest (answer : Result) (result : ℕ) (before after : List ℕ) : Type 0 where
  pub code_is : result ≡ result_code answer
  pub bytes_are : after ≡ lent_after answer before

-- of the end of a call: its number, and whether the unit is written back
abbrev pub end_code : End → ℕ
end_code (wrote n) = n
end_code (refused n) = refusal_base + n

abbrev pub writes_back : End → Bool
writes_back (wrote n) = true
writes_back (refused n) = spends n

-- what the function that ends a call promises
pub record Finishes (unit : TagUnit) (end : End) (result : ℕ) (before after : List ℕ) : Type 0 where
  pub code_is : result ≡ end_code end
  pub record_is : after ≡ cond (writes_back end) (encoded unit) before

-- the number of a primitive's end, whose answer has `size` bytes
abbrev pub digest_code : ℕ → Ending → ℕ
digest_code size (Ok done) = size
digest_code size (Err wrong) = refusal_base + end_number (Err wrong)
