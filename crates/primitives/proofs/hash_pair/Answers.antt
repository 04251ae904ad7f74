-- `hash_pair` meets its contract: the two empty parts add nothing.
use mathlib.Core.Path.{ap, ◌∙◌}
use mathlib.Core.List.{List, ◌++◌, append-nil}
use Prim.Native.Nat.{ℕ}
use Rattle.primitives.specs.Standards.{SHA256}
use Rattle.primitives.proofs.hash_pair.Goals as goal

pub returns : goal.returns
returns c =
    let a = c.args in
    c.digest.ensures ∙ ap (λ (rest : List ℕ). SHA256 (a.first.now ++ rest)) (append-nil a.second.now)
