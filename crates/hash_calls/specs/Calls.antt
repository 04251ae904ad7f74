-- What the public calls of hash and message authentication code give: the bytes of the standard, or refusal 7.
use Rattle.std.specs.Prelude.{ℕ, ◌&&◌, List, leb, eqb, length}
use Rattle.sizes.specs.Sizes.{longest_message}
use Rattle.laws.specs.Answer.{Result}
use Rattle.primitives.specs.Standards.{SHA256, HMAC}
use Rattle.lent_answer.specs.Ends.{or_refusal}

-- `room` is the number of lent answer bytes
unfoldable pub hashed : List ℕ → ℕ → Result
hashed message room = or_refusal (leb (length message) longest_message && eqb room 32) (SHA256 message)

unfoldable pub authenticated : List ℕ → List ℕ → ℕ → Result
authenticated key message room =
    or_refusal (leb (length key) longest_message && (leb (length message) longest_message && eqb room 32)) (HMAC key message)
