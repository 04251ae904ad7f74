-- `kinds::put_power` meets its contract: the bytes of the word.
use mathlib.Core.Path.{◌≡◌}
use mir.Syntax.{w32}
use mir.Val.{to_z, of_z}
use Rattle.record_fields.specs.Kinds.{power_word}
use borrow.Author.Rules.{rules}
use Rattle.record_fields.proofs.kinds.put_power.Goals as goal

pub returns : goal.returns
returns c =
    let p = c.args.power in
    let kept : to_z w32 (of_z w32 p) ≡ p = search rules in
    let word : c.power_word.result ≡ power_word p = rw kept at c.power_word.ensures in
    rw word at c.put_number.ensures
