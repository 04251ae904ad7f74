-- What the public calls of the block cipher give: the bytes of the standard, or refusal 7.
use Rattle.std.specs.Prelude.{ℕ, ◌&&◌, List, eqb, length}
use Rattle.laws.specs.Answer.{Result}
use Rattle.primitives.specs.Standards.{AES128, InvAES128, AES256}
use Rattle.lent_answer.specs.Ends.{or_refusal}

-- `room` is the number of lent answer bytes
unfoldable pub encrypted : List ℕ → List ℕ → ℕ → Result
encrypted key block room = or_refusal (eqb (length key) 16 && (eqb (length block) 16 && eqb room 16)) (AES128 key block)

unfoldable pub decrypted : List ℕ → List ℕ → ℕ → Result
decrypted key block room = or_refusal (eqb (length key) 16 && (eqb (length block) 16 && eqb room 16)) (InvAES128 key block)

-- "AES-256 refuses with 7 unless its key has 32 bytes; AES-128 keeps its 16"
unfoldable pub encrypted256 : List ℕ → List ℕ → ℕ → Result
encrypted256 key block room = or_refusal (eqb (length key) 32 && (eqb (length block) 16 && eqb room 16)) (AES256 key block)
