-- `hmac::hmac_under` is HMAC: the inner and the outer hash go on from the key's hash values.
use mathlib.Core.Path.{ap}
use Rattle.laws.specs.Bytes.{◌⊕◌}
use Rattle.hmac.specs.Hmac.{filled, shortened, ipad, opad, keyed_by}
use Rattle.hmac.specs.declared.Keyed.{Keyed}
use Rattle.hmac.proofs.Keys.{length_masked, two_hashes}
use Rattle.hmac.proofs.hmac_under.Goals as goal

pub returns : goal.returns
unfolding keyed_by
returns c = λ k e.
    let a = c.args in
    let inner = c.state_after-inner in
    let outer = c.digest_of_value in
    two_hashes k a.head.now a.tail.now a.last.now outer.result inner.result
    (inner.ensures (filled (shortened k) ⊕ ipad) (length_masked k 0x36) (ap (λ (h : Keyed). h.inner) e))
    (outer.ensures (filled (shortened k) ⊕ opad) (length_masked k 0x5c) (ap (λ (h : Keyed). h.outer) e))
