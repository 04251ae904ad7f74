-- `advertising::shown` meets its contract: a frame of what the unit shows where an identifier stands.
use mathlib.Core.Path.{sym}
use Rattle.advertising.specs.Showing.{showing}
use Rattle.unit.proofs.Ends.{refused_answers, wrote_answers}
use Rattle.advertising.proofs.shown.Goals as goal

pub returns-in_default : goal.returns-in_default
unfolding showing
returns-in_default c =
    rw (sym c.in_default.ensures.some_is) (refused_answers _ c.refuse.ensures)

pub returns : goal.returns
unfolding showing
returns c =
    let i = c.in-Some.ensures in
    rw (sym i.some_is)
    (wrote_answers c.accept.ensures
    (rw (c.flags_for-flags.ensures, c.protected-on.ensures, i.r_is, i.id_is) at c.render-count.ensures))
