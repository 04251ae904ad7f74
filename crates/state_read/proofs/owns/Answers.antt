-- `state_read::owns` meets its contract: a place is the owner's where its key is.
use mathlib.Core.Path.{refl, ◌∙◌}
use Rattle.state_read.proofs.Judging.{owner_test}
use Rattle.state_read.proofs.owns.Goals as goal

pub returns : goal.returns
returns c =
    c.eq.ensures ∙ owner_test c.args.a c.args.place c.requires.0.0 c.requires.1 c.args.a.owner refl c.requires.0.1
