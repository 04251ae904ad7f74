-- `base::scalar` meets its contract: the remainder of the bytes after 0.
use mathlib.Core.Path.{ap, ◌∙◌}
use Prim.Native.Nat.{ℕ, ◌%◌}
use native.Mathlib.Omega.{arith}
use lib.ListN.{length-replicate}
use Rattle.laws.specs.Bytes.{number_after, number}
use Rattle.limbs.specs.Limbs.{value}
use Rattle.field.proofs.Forms.{value_zeros}
use Rattle.curves.proofs.base.scalar.Goals as goal

pub remainder-requires : goal.remainder-requires
remainder-requires g c =
    record { width = omega (arith, length-replicate {A = ℕ} g.row.S 0); less = rw (value_zeros g.row.S) c.requires }

pub returns : goal.returns
unfolding number
returns g c =
    c.remainder.ensures ∙ ap (λ (k : ℕ). number_after k c.args.number % value c.args.n.now) (value_zeros g.row.S)
