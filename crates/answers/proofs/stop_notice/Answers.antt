-- `answers::stop_notice` meets its contract: a signed answer under the ring key.
use mathlib.Core.Path.{ap₂, subst}
use mathlib.Core.List.{List}
use Prim.Native.Nat.{ℕ}
use Rattle.wire.specs.Signing.{ring_id, signed, ring_notice}
use Rattle.laws.specs.Answer.{Wrote}
use Rattle.answers.proofs.stop_notice.Goals as goal

pub returns : goal.returns
unfolding ring_notice
returns c =
    let a = c.args in
    subst (λ (l : List ℕ). Wrote l c.sign.result a.answer.now c.sign.new.answer)
    (ap₂ (λ (k d : List ℕ). signed k a.nonce ring_id d) c.derived_key-ring_key.ensures c.notice_data-data.ensures)
    (c.sign.ensures c.derived_key-ring_key.result c.ready_key-key.ensures)
