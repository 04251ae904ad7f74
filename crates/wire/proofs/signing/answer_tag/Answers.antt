-- `signing::answer_tag` meets its contract: the first bytes of the code over the covered bytes, the data and 0x01.
use mathlib.Core.Path.{ap, ◌∙◌}
use lib.ListN.{length, take}
use mathlib.Core.List.{[], ◌∷◌, ◌++◌}
use Prim.Native.Nat.{◌+◌}
use Rattle.primitives.specs.Standards.{HMAC}
use Rattle.wire.proofs.Tagged.{covered_then}
use Rattle.sizes.specs.Sizes.{tag_size}
use Rattle.wire.specs.Signing.{answer_tag}
use Rattle.wire.proofs.signing.answer_tag.Goals as goal

pub returns : goal.returns
unfolding answer_tag
returns c = λ k e.
    let a = c.args in
    c.first_bytes.ensures
    ∙ ap (take tag_size)
    (c.mac_under-d.ensures k e
    ∙ ap (HMAC k)
    (covered_then a.nonce a.id (tag_size + length a.«data».now) c.covered-head.result (a.«data».now ++ (0x01 ∷ [])) c.covered-head.ensures))
