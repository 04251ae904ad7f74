-- `hmac::key::filled` appends zeros. The loop's invariant: the first i bytes of the key are in place.
use mathlib.Core.Path.{refl}
use native.Mathlib.Omega.{arith}
use Rattle.laws.proofs.Tabulate.{filled_none, filled_turn}
use Rattle.hmac.proofs.Keys.{key_copied}
use Rattle.hmac.proofs.key.filled.Goals as goal

pub loop-i-init : goal.loop-i-init
loop-i-init c = filled_none _ _

pub loop-i-preserved : goal.loop-i-preserved
loop-i-preserved c =
    let now = c.loop-i in
    filled_turn _ _ now.block now.i _ 0 (omega arith) now.invariant refl

pub returns : goal.returns
returns c =
    let now = c.loop-i in
    key_copied _ now.block now.i (omega arith) now.invariant
