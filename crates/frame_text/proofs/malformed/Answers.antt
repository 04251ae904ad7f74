-- `frame_text::malformed` meets its contract: the word is put at the front.
use Rattle.frame_text.proofs.Said.{said}
use Rattle.frame_text.proofs.malformed.Goals as goal

pub returns : goal.returns
returns c = said c.put-count.ensures
