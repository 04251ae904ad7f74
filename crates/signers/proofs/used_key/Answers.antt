-- `signers::used_key` meets its contract: the search over the keys held.
use mathlib.Core.Path.{sym}
use native.Mathlib.Omega.{arith}
use Rattle.unit.specs.WellFormed.{held_keys}
use Rattle.unit.proofs.Lines.{lines}
use Rattle.authentication.specs.Judgement.{used_key}
use Rattle.signers.proofs.used_key.Goals as goal

pub slice_bounds-first_of-end : goal.slice_bounds-first_of-end
slice_bounds-first_of-end c =
    sym (lines c.args.u c.requires.0).accounts.room

pub first_of-requires : goal.first_of-requires
first_of-requires c =
    let l = (lines c.args.u c.requires.0).accounts in
    (omega (arith, l.room, l.count), c.requires.1)

pub returns : goal.returns
unfolding used_key held_keys
returns c = c.first_of.ensures
