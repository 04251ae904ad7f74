-- `hash::digest_after` is SHA-256: the bytes of the last hash value.
use mathlib.Core.Path.{ap, ◌∙◌}
use Rattle.hash.specs.Sha256.{digest}
use Rattle.hash.proofs.Hashed.{digest_value}
use Rattle.hash.proofs.digest_after.Goals as goal

pub returns : goal.returns
returns c = λ p n e. c.bytes.ensures ∙ ap digest (c.state_after.ensures p n e) ∙ digest_value _
