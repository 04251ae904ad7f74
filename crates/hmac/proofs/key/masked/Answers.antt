-- `hmac::key::masked` masks a block. The loop's invariant: the bytes before the next one are masked.
use native.Mathlib.Omega.{arith}
use Rattle.laws.proofs.Tabulate.{filled_none}
use Rattle.hmac.proofs.Keys as keys
use Rattle.hmac.proofs.key.masked.Goals as goal

pub loop-b-init : goal.loop-b-init
loop-b-init c = (omega arith, filled_none _ _)

pub loop-b-preserved : goal.loop-b-preserved
loop-b-preserved c =
    let at = c.loop-b in
    (at.invariant.0, keys.mask_more c.args.block c.args.mask at.invariant.0 at.b-items at.b-index (omega arith) at.invariant.1)

pub returns : goal.returns
returns c =
    let at = c.loop-b in
    keys.mask_all c.args.block c.args.mask at.invariant.0 at.b-items at.b-index (omega arith) at.invariant.1
