-- `frame::hidden_flags` meets its contract: the digest is that of r and nothing after it.
use mathlib.Core.List.{append-nil}
use Rattle.frame.proofs.hidden_flags.Goals as goal

pub returns : goal.returns
returns c = rw (c.plain_flags-plain.ensures, c.hash_pair-d.ensures, append-nil)
