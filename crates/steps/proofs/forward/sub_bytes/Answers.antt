-- `steps::forward::sub_bytes` looks up each byte of the state.
use mathlib.Core.Path.{◌∙◌}
use lib.ListN.{get_or}
use mir.Syntax.{w8}
use mir.Val.{Fits}
use Rattle.substitution.specs.Box.{SBox}
use Rattle.steps.specs.Steps.{SubBytes}
use Rattle.steps.proofs.State.{looked_up}
use borrow.Author.Rules.{rules}
use Rattle.steps.proofs.forward.sub_bytes.Goals as goal

pub returns : goal.returns
unfolding SubBytes
returns c =
    let a = c.args in
    c.look_up.ensures
    ∙ looked_up SBox a.table.now a.s c.requires (λ i. let f : Fits w8 (get_or a.s i 0) = search rules in f.fits)
