-- `session::closing::act` meets its contract: what was read is kept for the lines that follow, or is done.
use borrow.Author.Rules.{rules}
use lib.ListN.{take}
use lib.Seq.{length-take-le}
use mathlib.Core.Path.{refl, sym, ap}
use mir.Syntax.{w32}
use mir.Val.{to_z, of_z}
use native.Mathlib.Omega.{arith}
use Rattle.lines.specs.Lines as lines
use Rattle.lines.specs.declared.Awaited.TheVariants as awaited
use Rattle.session.proofs.ClosedLines.{keeping, closes_told, closes_moved}
use Rattle.lines.specs.Promises.{awaiting}
use Rattle.session.proofs.closing.act.Goals as goal

pub slice_bounds-bring-end : goal.slice_bounds-bring-end
slice_bounds-bring-end c = sym (length-take-le c.args.count c.args.bytes (omega arith))

pub returns-in-Power : goal.returns-in-Power
returns-in-Power c =
    let run = c.args.run in
    let ready = c.requires.0 in
    let base = keeping (to_z w32 (of_z w32 c.in-Power.p)) run.components run.kept run.filled run in
    closes_told run c.args.number (take c.args.count c.args.bytes) c.in-Power.is
    (closes_moved (lines.components c.in-Power.p) awaited.Components base c.follow.ensures.0 ready.going ready.counted ready.bounded.within_kept (ap lines.components (search rules)) c.follow.ensures.1)

pub returns-in-Components : goal.returns-in-Components
returns-in-Components c =
    let run = c.args.run in
    let ready = c.requires.0 in
    let base = keeping run.power c.args.number run.kept run.filled run in
    closes_told run c.args.number (take c.args.count c.args.bytes) c.in-Components.is
    (closes_moved (lines.volume run.power c.args.number) awaited.Volume base c.follow-in-Components.ensures.0 ready.going ready.counted ready.bounded.within_kept refl c.follow-in-Components.ensures.1)

pub returns-in-Volume : goal.returns-in-Volume
returns-in-Volume c = closes_told c.args.run c.args.number (take c.args.count c.args.bytes) c.in-Volume.is c.create.ensures

pub returns-in-Follows : goal.returns-in-Follows
returns-in-Follows c =
    let run = c.args.run in
    let ready = c.requires.0 in
    let next = c.in-Follows.awaited in
    closes_told run c.args.number (take c.args.count c.args.bytes) c.in-Follows.is
    (closes_moved (awaiting next run.power run.components (take run.filled run.kept)) next run c.follow-in-Follows.ensures.0 ready.going ready.counted ready.bounded.within_kept refl c.follow-in-Follows.ensures.1)

pub returns-in-Keeps : goal.returns-in-Keeps
returns-in-Keeps c =
    let run = c.args.run in
    let ready = c.requires.0 in
    let base = keeping run.power run.components c.args.bytes c.args.count run in
    let next = c.in-Keeps.awaited in
    closes_told run c.args.number (take c.args.count c.args.bytes) c.in-Keeps.is
    (closes_moved (awaiting next run.power run.components (take c.args.count c.args.bytes)) next base c.follow-in-Keeps.ensures.0 ready.going ready.counted c.requires.1 refl c.follow-in-Keeps.ensures.1)

pub returns-in-Brings : goal.returns-in-Brings
returns-in-Brings c = closes_told c.args.run c.args.number (take c.args.count c.args.bytes) c.in-Brings.is c.bring.ensures
