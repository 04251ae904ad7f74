-- `frame_text::protection` meets its contract, by protection on or off.
use Rattle.frame_text.proofs.protection.Goals as goal

pub returns-then-on : goal.returns-then-on
returns-then-on c = rw c.if-on.true c.put.ensures

pub returns : goal.returns
returns c = rw c.if-on.false c.put-2.ensures
