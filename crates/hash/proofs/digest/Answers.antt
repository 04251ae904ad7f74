-- `hash::digest` is SHA-256: nothing went before.
use mathlib.Core.Path.{refl, ◌∙◌}
use mathlib.Core.List.{[]}
use Rattle.hash.proofs.Hashed.{value_at_start}
use Rattle.hash.proofs.digest.Goals as goal

pub returns : goal.returns
returns c = c.digest_after.ensures [] refl (c.initial.ensures ∙ value_at_start)
