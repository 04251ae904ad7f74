-- `kinds::power` meets its contract: the power of the word that is read.
use native.Mathlib.Omega.{arith}
use mathlib.Core.Path.{◌≡◌, ap, ◌∙◌}
use mir.Syntax.{w32}
use mir.Val.{to_z, of_z}
use Prim.Native.Nat.{◌^◌, ◌<◌}
use Rattle.record_fields.specs.Kinds.{power_size, word_power}
use Rattle.record_fields.proofs.Placing.{number_run, number_small}
use mathlib.Core.Path.{ap, ◌∙◌}
use borrow.Author.Rules.{rules}
use Rattle.record_fields.proofs.kinds.power.Goals as goal

pub word_power-requires : goal.word_power-requires
word_power-requires c =
    let small : c.number-word.result < 256 ^ power_size = number_small c.args.from.now c.args.at power_size c.requires c.number-word.ensures in
    omega arith

pub returns : goal.returns
returns c =
    let kept : to_z w32 (of_z w32 c.word_power.result) ≡ c.word_power.result = search rules in
    rw kept (c.word_power.ensures ∙ ap word_power (number_run c.args.from.now c.args.at power_size c.number-word.ensures))
