-- `parameter_read::wire_byte` meets its contract: the power comes back from its bits, and a negative one is raised by 256.
--
use Rattle.parameter_read.proofs.PowerByte.{byte_below, raised, as_it_is}
use Rattle.parameter_read.specs.Parameters.{wire_byte}
use lib.IntN.{pos, nat_abs}
use mathlib.Core.Path.{ap}
use mir.Facts.{to_z-of_z}
use mir.Syntax.{w32}
use mir.Val.{SFits}
use native.Mathlib.Omega.{arith}
use Rattle.parameter_read.proofs.wire_byte.Goals as goal

pub overflow_add-result : goal.overflow_add-result
overflow_add-result c =
    let p = c.args.power in
    let back = to_z-of_z c.ranges.power in
    rw (back, raised p c.requires (rw back at c.if-power-lt0.true)) (record { sfits = omega (arith, byte_below p c.requires) })

pub overflow_cast-result : goal.overflow_cast-result
overflow_cast-result c =
    let p = c.args.power in
    let back = to_z-of_z c.ranges.power in
    let fits : SFits w32 (pos (wire_byte p)) = record { sfits = omega (arith, byte_below p c.requires) } in
    rw (back, raised p c.requires (rw back at c.if-power-lt0.true), to_z-of_z fits) (
      tt,
      record {
        fits = omega
            (arith, byte_below p c.requires);
      },
    )

pub overflow_cast-result-else-power-lt0 : goal.overflow_cast-result-else-power-lt0
overflow_cast-result-else-power-lt0 c =
    let p = c.args.power in
    let back = to_z-of_z c.ranges.power in
    rw (back, as_it_is p (rw back at c.if-power-lt0.false)) (tt, record { fits = omega (arith, byte_below p c.requires) })

pub returns-then-power-lt0 : goal.returns-then-power-lt0
returns-then-power-lt0 c =
    let p = c.args.power in
    let back = to_z-of_z c.ranges.power in
    let fits : SFits w32 (pos (wire_byte p)) = record { sfits = omega (arith, byte_below p c.requires) } in
    rw (back, raised p c.requires (rw back at c.if-power-lt0.true), to_z-of_z fits)

pub returns-else-power-lt0 : goal.returns-else-power-lt0
returns-else-power-lt0 c =
    let p = c.args.power in
    let back = to_z-of_z c.ranges.power in
    rw back (ap nat_abs (as_it_is p (rw back at c.if-power-lt0.false)))
