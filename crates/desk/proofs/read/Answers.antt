-- `desk::read` meets its contract: what the reader promises, in the lent bytes.
use mathlib.Core.Path.{refl}
use lib.ListN.{length}
use Rattle.frame_reader.specs.Reader.{read_frame}
use Rattle.frame_reader.proofs.Scanning.{wrong_read, frame_read, wrong_small}
use Rattle.desk.specs.Exported.{part_bytes, written}
use Rattle.desk.proofs.Exporting.{no_room, exports_refusal, exports_bytes}
use Rattle.desk.proofs.read.Goals as goal

pub returns-then-parts-lt-PARTS_SIZE : goal.returns-then-parts-lt-PARTS_SIZE
returns-then-parts-lt-PARTS_SIZE c =
    no_room 23 (length c.args.parts.now) (written part_bytes (read_frame 20 c.args.text.now)) c.args.parts.now c.if-parts-lt-PARTS_SIZE.true

pub wrong_byte-requires : goal.wrong_byte-requires
wrong_byte-requires c =
    wrong_small c.args.text.now c.read.result c.read.ensures _ c.in-Err.is

pub returns-in-Err : goal.returns-in-Err
returns-in-Err c =
    rw c.wrong_byte.ensures
    (exports_refusal 23 (length c.args.parts.now) c.if-parts-lt-PARTS_SIZE.false c.args.parts.now c.args.parts.now part_bytes
    (read_frame 20 c.args.text.now) 8 _
    (wrong_read c.args.text.now c.read.result c.read.ensures _ c.in-Err.is) refl)

pub returns-in-Ok : goal.returns-in-Ok
returns-in-Ok c =
    exports_bytes 23 (length c.args.parts.now) c.if-parts-lt-PARTS_SIZE.false c.args.parts.now _ part_bytes
    (read_frame 20 c.args.text.now) _ 23
    (frame_read c.args.text.now c.read.result c.read.ensures _ c.in-Ok.is)
    c.put_parts.ensures
