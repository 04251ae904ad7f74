-- `base::multiple_x` meets its contract: the point goes into its forms, and x comes out of its own.
use mathlib.Core.Path.{◌∙◌}
use Rattle.points.proofs.Rules.{side_by}
use Rattle.curves.proofs.base.multiple_x.Goals as goal

pub returns : goal.returns
returns g c = (
  c.number_of.ensures.0,
  side_by c.form_of-x.ensures.holds c.form_of-y.ensures.holds c.multiple-j.ensures.1 (c.number_of.ensures.1 ∙ c.affine_x.ensures.holds),
)
