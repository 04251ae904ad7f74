-- `state_read::owned_by` meets its contract, a case of the owner each.
use Rattle.state_read.proofs.Judging.{claims}
use mathlib.Core.Path.{◌∙◌}
use Rattle.state_read.proofs.owned_by.Goals as goal

pub returns-in-None : goal.returns-in-None
returns-in-None c =
    c.with_owner.ensures ∙ claims c.args.a c.args.place c.requires.0 c.requires.1 c.in-None.is
