-- `ring_values::fail_data` meets its contract, a case of the sound each.
use Rattle.ring_values.proofs.fail_data.Goals as goal

pub returns-in-Silent : goal.returns-in-Silent
returns-in-Silent c = rw c.in-Silent.is c.notice_data.ensures

pub returns-in-Ringing : goal.returns-in-Ringing
returns-in-Ringing c = rw c.in-Ringing.is c.notice_data-in-Ringing.ensures
