-- What a read does on a unit that passed the guards: its own refusal, and what becomes of the unit.
use Rattle.std.specs.Prelude.{ℕ, cond, List, ◌∷◌}
use Rattle.nonces.specs.Nonces.{nonce_fits, with_issued}
use Rattle.unit.specs.declared.TagUnit.{TagUnit}
use Rattle.unit.specs.Change.{with_nonces}
use Rattle.unit.specs.Outcome.{Outcome, giving, refusing}
use Rattle.wire.specs.Signing.{version}

-- Read: "gives 0x01 and the lent nonce (9 bytes) and makes that nonce live, replacing any other"; 3 for a nonce that doesn't fit
unfoldable pub issuing : List ℕ → TagUnit → Outcome
issuing nonce u =
    cond (nonce_fits u.nonces nonce)
    (giving (version ∷ nonce) (with_nonces (with_issued nonce u.nonces) u))
    (refusing 3 u)
