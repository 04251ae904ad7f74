-- `signing::request_tag` meets its contract: the first bytes of the code over the covered bytes and the data.
use mathlib.Core.Path.{ap, ◌∙◌}
use lib.ListN.{take}
use mathlib.Core.List.{List, ◌++◌, append-nil}
use Prim.Native.Nat.{ℕ}
use Rattle.primitives.specs.Standards.{HMAC}
use Rattle.wire.proofs.Tagged.{covered_then}
use Rattle.sizes.specs.Sizes.{tag_size}
use Rattle.wire.specs.Signing.{request_tag}
use Rattle.wire.proofs.signing.request_tag.Goals as goal

pub returns : goal.returns
unfolding request_tag
returns c = λ k e.
    let a = c.args in
    c.first_bytes.ensures
    ∙ ap (take tag_size)
    (c.mac_under-d.ensures k e
    ∙ ap (HMAC k)
    (ap (λ (l : List ℕ). c.covered-head.result ++ l) (append-nil a.additional.now)
    ∙ covered_then a.nonce a.id a.size c.covered-head.result a.additional.now c.covered-head.ensures))
