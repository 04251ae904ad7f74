-- `events::perform` meets its contract, a kind of event each.
use Rattle.events.proofs.perform.Goals as goal

pub returns-in-Asks : goal.returns-in-Asks
returns-in-Asks c = rw c.in-Asks.is c.asked.ensures

pub returns-in-Sets : goal.returns-in-Sets
returns-in-Sets c = rw c.in-Sets.is c.set.ensures

pub returns-in-Elapsed : goal.returns-in-Elapsed
returns-in-Elapsed c = rw c.in-Elapsed.is c.elapse.ensures
