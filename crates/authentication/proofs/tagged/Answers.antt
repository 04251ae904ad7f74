-- `tagged` meets its contract: the tag made is held against the request's.
use mathlib.Core.Path.{ap, ◌∙◌}
use mathlib.Core.List.{List}
use Prim.Native.Nat.{ℕ}
use Rattle.laws.specs.Bytes.{same_bytes}
use Rattle.authentication.specs.Judgement.{tagged}
use Rattle.authentication.proofs.tagged.Goals as goal

pub returns : goal.returns
unfolding tagged
returns c = λ k e.
    c.same.ensures ∙ ap (λ (t : List ℕ). same_bytes t c.args.h.tag) (c.request_tag-made.ensures k e)
