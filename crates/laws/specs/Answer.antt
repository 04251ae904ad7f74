-- What a call with lent answer bytes gives: bytes, or a refusal by its number in the paper's list; and what the lent
-- bytes then hold. "Lent" is the paper's word for bytes of the caller's that a call may write.
use Rattle.std.specs.Prelude.{ℕ, ◌≡◌, List, ◌++◌, length, drop}

pub data Result : Type 0 where
  gives : List ℕ → Result
  refuses : ℕ → Result

-- The answer stands first and the rest is kept; a refusal writes nothing
unfoldable pub lent_after : Result → List ℕ → List ℕ
lent_after (gives answer) before = answer ++ drop (length answer) before
lent_after (refuses n) before = before

-- What a function says of an answer that it wrote into lent bytes: how many bytes, and all of the lent bytes after it
pub record Wrote (answer : List ℕ) (count : ℕ) (before after : List ℕ) : Type 0 where
  pub count_is : count ≡ length answer
  pub bytes_are : after ≡ lent_after (gives answer) before
