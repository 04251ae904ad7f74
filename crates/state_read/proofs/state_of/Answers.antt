-- `state_read::state_of` meets its contract: the identifier is put right behind the state.
use Rattle.laws.proofs.Copied.{copied_next, nothing_left}
use mathlib.Core.Path.{◌≡◌, refl, ◌∙◌}
use mathlib.Core.List.{List, [], ◌∷◌}
use Prim.Native.Nat.{ℕ, ◌+◌}
use lib.ListN.{length, replicate}
use native.Mathlib.Omega.{arith}
use borrow.Author.Rules.{rules}
use Rattle.state_read.proofs.state_of.Goals as goal

pub returns : goal.returns
returns c =
    let n : length c.args.id ≡ 20 = search rules in
    let whole : List ℕ = replicate 21 c.args.bits in
    copied_next whole (c.args.bits ∷ []) c.args.id whole c.put.new.to 1 refl refl c.put.ensures
    ∙ nothing_left whole (c.args.bits ∷ c.args.id) (1 + length c.args.id) (omega arith)
