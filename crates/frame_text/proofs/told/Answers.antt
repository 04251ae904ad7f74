-- `frame_text::told` meets its contract, by what was read.
use Rattle.frame_reader.proofs.Scanning.{wrong_read, frame_read, wrong_small}
use Rattle.frame_text.proofs.told.Goals as goal

pub refused-requires : goal.refused-requires
refused-requires c =
    wrong_small c.args.frame.now c.read.result c.read.ensures _ c.in-Err.is

pub returns-in-Err : goal.returns-in-Err
returns-in-Err c =
    rw (wrong_read c.args.frame.now c.read.result c.read.ensures _ c.in-Err.is)
    c.refused.ensures

pub returns-in-Ok : goal.returns-in-Ok
returns-in-Ok c =
    rw (frame_read c.args.frame.now c.read.result c.read.ensures _ c.in-Ok.is)
    c.parts.ensures
