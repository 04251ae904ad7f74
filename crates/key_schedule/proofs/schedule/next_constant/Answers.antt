-- `key_schedule::schedule::next_constant` doubles the constant where a turn ends.
use mathlib.Core.Path.{◌∙◌}
use Rattle.key_schedule.proofs.Phases.{same_constant, more_constant}
use Rattle.key_schedule.proofs.schedule.next_constant.Goals as goal

pub returns-then-phase-nk : goal.returns-then-phase-nk
returns-then-phase-nk c = λ n f e g. same_constant c.args.nk n f c.args.constant (rw e at c.if-phase-nk.true) g

pub returns-else-phase-nk : goal.returns-else-phase-nk
returns-else-phase-nk c = λ n f e g.
    c.times_two.ensures
    ∙ more_constant c.args.nk n f c.args.constant (rw e at c.if-phase-nk.false) g
