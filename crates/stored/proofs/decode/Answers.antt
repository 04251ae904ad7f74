-- `decode` meets its contract: by the length, and by the record of what was read.
use mathlib.Core.Path.{sym, ◌∙◌}
use Rattle.laws.proofs.Flags.{granted, refuted}
use Rattle.stored.proofs.RoundTrip.{other_length, other_bytes, same_bytes_lem}
use Rattle.stored.proofs.decode.Goals as goal

pub returns-then-bytes-ne-RECORD_SIZE : goal.returns-then-bytes-ne-RECORD_SIZE
returns-then-bytes-ne-RECORD_SIZE c =
    c.no_unit.ensures ∙ sym (other_length c.args.bytes.now c.if-bytes-ne-RECORD_SIZE.true)

pub returns-else-same : goal.returns-else-same
returns-else-same c =
    c.no_unit-else-same.ensures ∙ sym (other_bytes c.args.bytes.now c.if-bytes-ne-RECORD_SIZE.false c.fields-u.ensures c.record.ensures (refuted c.same.ensures c.if-same.false))

pub returns-then-same : goal.returns-then-same
returns-then-same c =
    sym (same_bytes_lem c.args.bytes.now c.if-bytes-ne-RECORD_SIZE.false c.fields-u.ensures c.record.ensures (granted c.same.ensures c.if-same.true))
