-- `key_calls::accounts::held` meets its contract: the search over all keys held.
use native.Mathlib.Omega.{arith}
use Rattle.unit.specs.WellFormed.{held_keys}
use Rattle.unit.proofs.Lines.{accounts_lines}
use Rattle.key_calls.proofs.accounts.held.Goals as goal

pub among-requires : goal.among-requires
among-requires c =
    let l = accounts_lines c.args.a c.requires in
    (omega arith, omega (arith, l.room, l.count))

pub returns : goal.returns
unfolding held_keys
returns c = c.among.ensures
