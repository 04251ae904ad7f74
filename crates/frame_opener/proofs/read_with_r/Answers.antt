-- `frame_opener::read_with_r` meets its contract: where the frame reads and r has its length, the flags byte decides.
use mathlib.Core.Path.{◌≡◌, refl}
use borrow.Author.Rules.{rules}
use Rattle.std.specs.Prelude.{Ok, Err}
use Rattle.frame_reader.specs.Reader.{reads, read_frame}
use Rattle.frame_reader.specs.Scanned.{parts_of}
use Rattle.frame_opener.specs.Opened.{battery_as}
use Rattle.frame_opener.specs.declared.NotOpened.{NotOpened}
use Rattle.frame_opener.proofs.Scanning.{with_size}
use Rattle.frame_opener.proofs.read_with_r.Goals as goal

pub returns-in_err-battery : goal.returns-in_err-battery
returns-in_err-battery c =
    let frame = c.in_ok-frame.frame in
    let wrong = c.in_err-battery.field-0.0 in
    let said : reads (parts_of frame) ≡ read_frame 20 c.args.text.now = search rules in
    let level : c.battery.result ≡ Err wrong = search rules in
    let refused : c.from_residual-in_err-battery.result ≡ Err (NotOpened.WrongByte wrong.at) = search rules in
    rw refused
    (with_size c.args.r.now c.args.text.now frame said (battery_as (parts_of frame) (Err wrong)) (search rules) (rw level at (c.battery.ensures (parts_of frame) refl)))

pub returns : goal.returns
returns c =
    let frame = c.in_ok-frame.frame in
    let said : reads (parts_of frame) ≡ read_frame 20 c.args.text.now = search rules in
    let level : c.battery.result ≡ Ok c.in_ok-battery.field-0 = search rules in
    with_size c.args.r.now c.args.text.now frame said (battery_as (parts_of frame) (Ok c.in_ok-battery.field-0)) (search rules) (rw level at (c.battery.ensures (parts_of frame) refl))
