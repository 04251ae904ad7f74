-- `frame_text::flags_line` meets its contract, by the flags byte left out or shown.
use Rattle.frame_text.proofs.flags_line.Goals as goal

pub returns-in-None : goal.returns-in-None
returns-in-None c = rw c.in-None.is c.put.ensures

pub returns-in-Some : goal.returns-in-Some
returns-in-Some c = rw c.in-Some.is c.hex_line.ensures
