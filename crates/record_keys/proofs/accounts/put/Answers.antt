-- `accounts::put` meets its contract: one field right behind the other.
use native.Mathlib.Omega.{arith}
use Rattle.octets.proofs.Pasting.{puts_then}
use Rattle.record_fields.proofs.Placing.{puts_none}
use Rattle.record_fields.specs.Part.{bytes_of}
use Rattle.record_parts.specs.Groups.{accounts_fields}
use Rattle.record_keys.proofs.accounts.put.Goals as goal

pub returns : goal.returns
unfolding bytes_of accounts_fields
returns c =
    puts_then (puts_then (puts_then (puts_none c.args.at c.args.to.now)
    c.put_count.ensures (omega (arith, c.requires)))
    c.put.ensures (omega (arith, c.requires)))
    c.put_bytes.ensures (omega (arith, c.requires))
