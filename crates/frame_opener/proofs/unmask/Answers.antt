-- `frame_opener::unmask` meets its contract: the digest is that of r and nothing after it.
use mathlib.Core.List.{append-nil}
use Rattle.frame_opener.proofs.unmask.Goals as goal

pub returns : goal.returns
returns c = rw (c.hash_pair-d.ensures, append-nil)
