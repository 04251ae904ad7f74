-- `desk::read_with_r` meets its contract: as `desk::read`, with the battery level behind the parts.
use mathlib.Core.Path.{refl}
use native.Mathlib.Omega.{arith}
use borrow.Author.Rules.{rules}
use lib.ListN.{length}
use Rattle.frame_opener.specs.Opener.{read_frame_with_r}
use Rattle.frame_opener.proofs.Scanning.{wrong_read_with_r, wrong_size_read, frame_read_with_r, wrong_small_with_r}
use Rattle.desk.specs.Exported.{opened_bytes, written}
use Rattle.desk.proofs.Exporting.{one_more, no_room, exports_refusal, exports_bytes}
use Rattle.desk.proofs.read_with_r.Goals as goal

pub returns-then-parts-lt-OPENED_SIZE : goal.returns-then-parts-lt-OPENED_SIZE
returns-then-parts-lt-OPENED_SIZE c =
    no_room 24 (length c.args.parts.now) (written opened_bytes (read_frame_with_r 20 c.args.r.now c.args.text.now)) c.args.parts.now c.if-parts-lt-OPENED_SIZE.true

pub wrong_byte-requires : goal.wrong_byte-requires
wrong_byte-requires c =
    wrong_small_with_r c.args.r.now c.args.text.now c.read_with_r.result c.read_with_r.ensures _ (search rules)

pub returns-in-Err-WrongByte : goal.returns-in-Err-WrongByte
returns-in-Err-WrongByte c =
    rw c.wrong_byte.ensures
    (exports_refusal 24 (length c.args.parts.now) c.if-parts-lt-OPENED_SIZE.false c.args.parts.now c.args.parts.now opened_bytes
    (read_frame_with_r 20 c.args.r.now c.args.text.now) 8 _
    (wrong_read_with_r c.args.r.now c.args.text.now c.read_with_r.result c.read_with_r.ensures _ (search rules)) refl)

pub returns-in-Err-WrongSize : goal.returns-in-Err-WrongSize
returns-in-Err-WrongSize c =
    exports_refusal 24 (length c.args.parts.now) c.if-parts-lt-OPENED_SIZE.false c.args.parts.now c.args.parts.now opened_bytes
    (read_frame_with_r 20 c.args.r.now c.args.text.now) 1 0
    (wrong_size_read c.args.r.now c.args.text.now c.read_with_r.result c.read_with_r.ensures (search rules)) refl

pub returns-in-Ok : goal.returns-in-Ok
unfolding opened_bytes
returns-in-Ok c =
    exports_bytes 24 (length c.args.parts.now) c.if-parts-lt-OPENED_SIZE.false c.args.parts.now _ opened_bytes
    (read_frame_with_r 20 c.args.r.now c.args.text.now) _ 24
    (frame_read_with_r c.args.r.now c.args.text.now c.read_with_r.result c.read_with_r.ensures _ c.in-Ok.is)
    (one_more _ c.args.parts.now _ 23 _ c.put_parts.ensures (omega (arith, c.if-parts-lt-OPENED_SIZE.false)))
