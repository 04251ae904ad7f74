-- `base::times_base` meets its contract.
use mathlib.Core.Path.{ap, ◌∙◌}
use lib.ListN.{length}
use Rattle.laws.specs.Bytes.{big_endian}
use Rattle.limbs.specs.Limbs.{value}
use Rattle.curves.proofs.Domains.{on_curve}
use Rattle.curves.proofs.base.times_base.Goals as goal

pub returns : goal.returns
returns g c =
    let d = c.args.d.now in
    let found = c.multiple_x-found in
    λ curve valid three of.
    on_curve curve valid three d of d.usable.order_some
    c.args.number _ _ (length c.args.x.now) (value found.result)
    (c.to_bytes-2.ensures ∙ ap (big_endian 32) c.scalar-limbs.ensures)
    c.to_bytes.ensures
    (rw c.scalar-limbs.ensures at found.ensures.1)
