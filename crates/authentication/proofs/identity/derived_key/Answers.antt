-- `identity::derived_key` meets its contract: the derived key is made ready.
use mathlib.Core.Path.{ap, ◌∙◌}
use Rattle.primitives.specs.Standards.{keyed_by}
use Rattle.authentication.proofs.identity.derived_key.Goals as goal

pub returns : goal.returns
returns c = c.ready_key.ensures ∙ ap keyed_by c.derived_key-key.ensures
