-- `digits::bit` meets its contract: the bit lies in one limb.
use mathlib.Core.Path.{ap, ◌∙◌}
use Prim.Native.Nat.{ℕ, ◌/◌, ◌%◌, ◌^◌}
use Rattle.digits.proofs.Digits.{digit}
use native.Mathlib.Omega.{arith}
use Rattle.digits.proofs.bit.Goals as goal

pub returns : goal.returns
returns c =
    let a = c.args in
    ap (λ (k : ℕ). k / 2 ^ (a.i % 32) % 2 ^ 1) c.limb.ensures
    ∙ digit a.t.now a.i (a.i / 32) (a.i % 32) 1 (λ k. (c.type_inv.t k).fits) (omega arith) (omega arith)
