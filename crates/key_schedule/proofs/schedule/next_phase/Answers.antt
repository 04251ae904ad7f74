-- `key_schedule::schedule::next_phase` counts in fours within a turn.
use Rattle.key_schedule.proofs.Phases.{within, turned}
use Rattle.key_schedule.proofs.schedule.next_phase.Goals as goal

pub returns-then-phase-nk : goal.returns-then-phase-nk
returns-then-phase-nk c = λ n f e. let a = c.args in rw e (within a.nk n f (rw e at c.if-phase-nk.true)).0

pub returns-else-phase-nk : goal.returns-else-phase-nk
returns-else-phase-nk c = λ n f e. (turned c.args.nk n f (rw e at c.if-phase-nk.false)).0
