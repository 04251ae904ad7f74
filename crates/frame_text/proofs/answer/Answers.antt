-- `frame_text::answer` meets its contract: a line of at most 256 bytes makes at most 128, and what they say is told.
use mathlib.Core.Path.{sym}
use native.Mathlib.Omega.{arith}
use lib.Seq.{length-take-le}
use Rattle.frame_text.proofs.Lines.{answered, not_answered}
use Rattle.frame_text.proofs.answer.Goals as goal

pub slice_bounds-frame-end : goal.slice_bounds-frame-end
slice_bounds-frame-end c =
    let few = rw c.in-Some.is at c.unhex.ensures.within_text in
    omega (arith, few, c.unhex.auto.into, c.requires)

pub slice_bounds-told-end : goal.slice_bounds-told-end
slice_bounds-told-end c =
    let few = rw c.in-Some.is at c.unhex.ensures.within_text in
    sym (length-take-le _ _ (omega (arith, few, c.unhex.auto.into, c.requires)))

pub returns-in-Some : goal.returns-in-Some
returns-in-Some c =
    rw (answered c.args.line.now c.requires _ (rw c.in-Some.is at c.unhex.ensures.bytes_are))
    c.told.ensures

pub returns-in-None : goal.returns-in-None
returns-in-None c =
    rw (not_answered c.args.line.now c.requires (rw c.in-None.is at c.unhex.ensures.bytes_are))
    c.malformed.ensures
