-- `kinds::put_flag` meets its contract: its byte.
use Rattle.record_fields.proofs.kinds.put_flag.Goals as goal

pub returns : goal.returns
returns c =
    rw c.flag_byte.ensures at c.put_byte.ensures
