-- `signing::key_proof` meets its contract: the first bytes of the digest.
use mathlib.Core.Path.{ap, ◌∙◌}
use lib.ListN.{take}
use Rattle.sizes.specs.Sizes.{tag_size}
use Rattle.wire.specs.Signing.{key_proof}
use Rattle.wire.proofs.signing.key_proof.Goals as goal

pub returns : goal.returns
unfolding key_proof
returns c = c.first_bytes.ensures ∙ ap (take tag_size) c.hash_pair-d.ensures
