-- `signing::derived_key` meets its contract: the first bytes of the digest.
use mathlib.Core.Path.{ap, ◌∙◌}
use lib.ListN.{take}
use Rattle.sizes.specs.Sizes.{tag_size}
use Rattle.wire.specs.Signing.{derived_key}
use Rattle.wire.proofs.signing.derived_key.Goals as goal

pub returns : goal.returns
unfolding derived_key
returns c = c.first_bytes.ensures ∙ ap (take tag_size) c.hash_pair-d.ensures
