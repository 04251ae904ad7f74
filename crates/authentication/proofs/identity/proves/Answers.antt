-- `identity::proves` meets its contract: the proof made is held against the one given.
use mathlib.Core.Path.{ap, ◌∙◌}
use mathlib.Core.List.{List}
use Prim.Native.Nat.{ℕ}
use Rattle.laws.specs.Bytes.{same_bytes}
use Rattle.authentication.proofs.identity.proves.Goals as goal

pub returns : goal.returns
returns c =
    c.same.ensures ∙ ap (λ (t : List ℕ). same_bytes t c.args.proof.now) c.key_proof-made.ensures
