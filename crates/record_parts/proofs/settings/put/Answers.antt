-- `settings::put` meets its contract: one field right behind the other.
use native.Mathlib.Omega.{arith}
use mathlib.Core.Path.{◌≡◌}
use mir.Syntax.{w32}
use mir.Val.{to_z, of_z}
use Rattle.octets.proofs.Pasting.{puts_then}
use Rattle.record_fields.proofs.Placing.{puts_none}
use Rattle.record_fields.specs.Part.{bytes_of}
use Rattle.record_parts.specs.Groups.{settings_fields}
use borrow.Author.Rules.{rules}
use Rattle.record_parts.proofs.settings.put.Goals as goal

pub returns : goal.returns
unfolding bytes_of settings_fields
returns c =
    let p = c.args.s.power in
    let kept : to_z w32 (of_z w32 p) ≡ p = search rules in
    puts_then (puts_then (puts_then (puts_none c.args.at c.args.to.now)
    (rw kept at c.put_power.ensures) (omega (arith, c.requires)))
    c.put_byte.ensures (omega (arith, c.requires)))
    c.put_byte-2.ensures (omega (arith, c.requires))
