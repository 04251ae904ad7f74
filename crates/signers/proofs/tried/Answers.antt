-- `signers::tried` meets its contract: the tag decides.
use Rattle.authentication.proofs.Finding.{signed_made, unsigned_none}
use Rattle.signers.proofs.tried.Goals as goal

pub returns-then-tagged : goal.returns-then-tagged
returns-then-tagged c = signed_made (c.tagged.ensures _ c.ready_key-key.ensures) c.if-tagged.true c.ready_key-key.ensures

pub returns-else-tagged : goal.returns-else-tagged
returns-else-tagged c = unsigned_none (c.tagged.ensures _ c.ready_key-key.ensures) c.if-tagged.false
