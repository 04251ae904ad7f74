-- `session::closing::bring` meets its contract: the event is performed, and the run is at the next line.
use borrow.Author.Rules.{rules}
use lib.ListN.{length}
use lib.Seq.{length-take-le}
use mathlib.Core.Path.{◌≡◌, sym}
use native.Mathlib.Omega.{arith}
use Rattle.session.proofs.ClosedLines.{closes_event}
use Rattle.session.proofs.closing.bring.Goals as goal

pub slice_bounds-kept-end : goal.slice_bounds-kept-end
slice_bounds-kept-end c =
    let known = c.args.run in
    let size : length known.kept ≡ 128 = search rules in
    sym (length-take-le known.filled known.kept (omega (arith, c.requires.bounded.within_kept)))

pub returns : goal.returns
returns c = closes_event c.requires c.advance.ensures c.perform-done.ensures
