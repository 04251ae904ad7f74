-- "Read and write": a write as a whole, on a well-formed unit with room for the answer. `reach` is the mask of reachable parts: "The host lends the
-- mask of reachable parts with each write".
use Rattle.std.specs.Prelude.{ℕ, Bool, cond, ◌||◌, List, ltb}
use Rattle.wire.specs.Shape.{Request, parsed, shape_legal}
use Rattle.unit.specs.declared.TagUnit.{TagUnit}
use Rattle.unit.specs.Change.{spent, keyed}
use Rattle.unit.specs.Ringable.{inside}
use Rattle.unit.specs.Outcome.{Outcome, refusing}
use Rattle.authentication.specs.Judgement.{Judgement, not_authenticated, invalid_value, unless, concluded}
use Rattle.handlers.specs.ById.{by_id}

-- "IDs 0x03 to 0x08 without an identity key: 0x80"
abbrev pub needs_key : ℕ
needs_key = 0x03

abbrev pub key_there : TagUnit → Request → Bool
key_there u q = ltb q.id needs_key || keyed u

-- "An unknown ID or any other count: 0x81. Then, in order: no live nonce, 0x80 (house: skip-authentication ringing needs one too);
-- tag and key proofs, 0x80; values, 0x81; consent, 0x82." The request is judged on the unit with its nonce spent
unfoldable pub judged : TagUnit → List ℕ → ℕ → Judgement
judged u w reach =
    unless (shape_legal w) invalid_value
    (unless u.nonces.live not_authenticated
    (unless (key_there u (parsed w)) not_authenticated (by_id (spent u) (parsed w) reach)))

-- "A lent mask with a bit outside the ringable mask is refused with 1, after 6 and 2 and before the nonce is spent." Every write that passes 6, 2 and
-- this "spends the live nonce, whatever follows"
unfoldable pub written : TagUnit → List ℕ → ℕ → Outcome
written u w reach = cond (inside reach u.settings.components) (concluded (spent u) (judged u w reach)) (refusing 1 u)
