-- `tag_elapsed` meets its contract: what the tag and the end of the call promise, with the ending tenth; the sum is small.
use Prim.Native.Nat.{◌+◌, ◌≤◌}
use native.Mathlib.Omega.{arith}
use lib.ListN.{length}
use Rattle.unit.specs.Refusals.{end_of}
use Rattle.tag.specs.Calls.{elapsed}
use Rattle.exports.specs.Exported.{end_code}
use Rattle.firmware.proofs.Exporting.{passes_whole, passes_exports, code_small}
use Rattle.firmware.proofs.tag_elapsed.Goals as goal

pub finish-requires : goal.finish-requires
finish-requires c =
    passes_whole c.args.tenths (length c.args.answer.now) c.args.bytes.now c.decode.ensures c.elapsed-passed.ensures

pub with_tenths-requires : goal.with_tenths-requires
with_tenths-requires c =
    let lent = c.args.answer.now in
    let reply = c.elapsed-passed.result.reply in
    let told = c.elapsed-passed.ensures.answers in
    let small : end_code (end_of reply) ≤ length lent + 512
    = code_small reply (elapsed c.args.tenths (length lent) c.decode.result).result lent c.elapsed-passed.new.answer told.end_is told.bytes_are c.elapsed-passed.auto.answer in
    omega (arith, c.well_formed, c.finish.ensures.code_is)

pub returns : goal.returns
returns c =
    rw c.with_tenths.ensures
    (passes_exports c.args.tenths (length c.args.answer.now) c.args.bytes.now c.decode.ensures c.elapsed-passed.ensures c.finish.ensures)
