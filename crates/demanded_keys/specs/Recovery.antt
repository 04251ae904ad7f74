-- Demand 2: "While a key stays set, recovery returns the same 32 encrypted bytes that set it", and "recovery speaks of the key in force". Over
-- histories from a fresh unit: if the last disconnect that brought a key in has no accepted 0x03 after it, and the last accepted 0x02 before it
-- had data that began with the 32 bytes C, each later accepted 0x04 answers C, whatever waits. That the owner key stays while a key waits and
-- while it is in force is proved on the way, not assumed.
use Rattle.std.specs.Prelude.{ℕ, ◌≡◌, List, [], ◌∷◌, ◌++◌, get_or, take, drop}
use Rattle.laws.specs.Answer.{gives}
use Rattle.unit.specs.declared.TagUnit.{TagUnit}
use Rattle.unit.specs.declared.Settings.{Settings}
use Rattle.unit.specs.Change.{fresh}
use Rattle.tag.specs.Calls.{Written, disconnect, Act, calls}
use Rattle.demanded_answers.specs.History.{step, after, writes, AllOfBytes}
use Rattle.demanded_nonces.specs.Among.{NoneIn, Accepts, BringsIn}

-- "A write is ID, length, 8 tag bytes, additional data", and an answer is ID, length, tag and data: the data of both
abbrev pub data_of : List ℕ → List ℕ
data_of bytes = drop 10 bytes

-- The key in force after the history h, from the unit u, was set by a 0x02 whose data began with C
pub record SetBy (u : TagUnit) (h : List Act) (C : List ℕ) : Type 0 where
  pub before : List Act
  pub sent : Written
  pub room : ℕ
  pub between : List Act
  pub lent : ℕ
  pub later : List Act
  pub split : h ≡ before ++ (writes sent room ∷ between ++ (calls disconnect lent ∷ later))
  -- the last accepted 0x02 before the disconnect
  pub accepted : Accepts 0x02 (writes sent room) (after before u)
  pub began : C ≡ take 32 (data_of sent.bytes)
  pub last_set : NoneIn (Accepts 0x02) between (after (before ++ (writes sent room ∷ [])) u)
  -- the last disconnect that brought a key in, and no accepted 0x03 after it
  pub brought : BringsIn (calls disconnect lent) (after (before ++ (writes sent room ∷ between)) u)
  pub last_brought : NoneIn BringsIn later (after (before ++ (writes sent room ∷ between ++ (calls disconnect lent ∷ []))) u)
  pub kept : NoneIn (Accepts 0x03) later (after (before ++ (writes sent room ∷ between ++ (calls disconnect lent ∷ []))) u)

abbrev pub Demand2Recovery : Type 0
Demand2Recovery =
    (s : Settings) (h : List Act) (C : List ℕ) (w : Written) (room : ℕ) (answer : List ℕ)
    → AllOfBytes h
    → SetBy (fresh s) h C
    → get_or w.bytes 0 0 ≡ 0x04
    → (step (writes w room) (after h (fresh s))).result ≡ gives answer
    → data_of answer ≡ C
