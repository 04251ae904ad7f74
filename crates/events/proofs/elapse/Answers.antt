-- `events::elapse` meets its contract: the notes and the clock are those of the call.
use Prim.Native.Nat.{◌+◌, ◌≤◌}
use lib.ListN.{length}
use native.Mathlib.Omega.{arith}
use Rattle.sizes.specs.Sizes.{answer_room}
use Rattle.events.specs.Event.{performed}
use Rattle.events.proofs.Performed.{answers_within, performs_passed}
use Rattle.events.proofs.elapse.Goals as goal

pub passed-requires : goal.passed-requires
passed-requires c =
    let called = c.elapsed-passed in
    let room : c.args.at + 256 ≤ length c.args.out.now = c.requires in
    (omega arith, (answers_within answer_room called.ensures.answers (omega arith), room))

pub returns : goal.returns
unfolding performed
returns c = performs_passed c.args.tenths c.args.u c.elapsed-passed.ensures (omega arith) c.passed.ensures
