-- `digits::byte` meets its contract: the byte lies in one limb.
use mathlib.Core.Path.{ap, ◌∙◌}
use Prim.Native.Nat.{ℕ, ◌*◌, ◌/◌, ◌%◌, ◌^◌}
use Rattle.digits.proofs.Digits.{digit}
use native.Mathlib.Omega.{arith}
use Rattle.digits.proofs.byte.Goals as goal

pub returns : goal.returns
returns c =
    let a = c.args in
    ap (λ (k : ℕ). k / 2 ^ (8 * (a.i % 4)) % 2 ^ 8) c.limb.ensures
    ∙ digit a.t.now (8 * a.i) (a.i / 4) (8 * (a.i % 4)) 8 (λ k. (c.type_inv.t k).fits) (omega arith) (omega arith)
