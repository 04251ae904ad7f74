-- `tag_new` meets its contract: by the length; then what the tag and the end of the call promise.
use mir.Facts.{to_z-of_z}
use borrow.Author.Tests.{eq-eqb, ne_eqb}
use Rattle.exports.specs.Exported.{code, record_after}
use Rattle.firmware.proofs.Exporting.{exported, new_untimed}
use Rattle.firmware.proofs.tag_new.Goals as goal

pub returns-then-bytes-ne-RECORD_SIZE : goal.returns-then-bytes-ne-RECORD_SIZE
unfolding code record_after
returns-then-bytes-ne-RECORD_SIZE c =
    rw (ne_eqb _ _ c.if-bytes-ne-RECORD_SIZE.true)
    (record { code_is = c.no_record.ensures.code_is; record_is = c.no_record.ensures.record_is })

pub finish-requires : goal.finish-requires
finish-requires c =
    λ w. c.if-bytes-ne-RECORD_SIZE.false

pub returns : goal.returns
returns c =
    let known = rw (to_z-of_z c.ranges.power) at c.new_unit.ensures in
    rw (eq-eqb _ _ c.if-bytes-ne-RECORD_SIZE.false)
    (exported known (new_untimed c.args.power c.args.components c.args.selectable) c.finish.ensures)
