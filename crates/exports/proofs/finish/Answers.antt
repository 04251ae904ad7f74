-- `exports::finish` meets its contract: by the end of the call and whether the refusal spends the nonce.
use mathlib.Core.Path.{refl, sym, ◌∙◌}
use Rattle.exports.proofs.finish.Goals as goal
use Rattle.exports.proofs.finish.Goals.{then-spends, else-spends}

pub encode-requires : goal.encode-requires
encode-requires c =
    c.requires (rw c.in-Ok.is refl)

pub encode-requires-then-spends : goal.encode-requires-then-spends
encode-requires-then-spends c =
    c.requires (rw c.in-Err.is (sym c.spends.ensures ∙ c.if-spends.true))

pub returns-in-Ok : goal.returns-in-Ok
returns-in-Ok c =
    rw c.in-Ok.is (record { code_is = refl; record_is = c.encode.ensures })

pub returns-after-spends : goal.returns-after-spends
returns-after-spends c =
    rw c.in-Err.is
    (record {
      code_is = c.refusal_code.ensures;
      record_is =
          elim c.if-spends.branch [
            | then-spends w ↦ rw (sym c.spends.ensures ∙ w.if-spends.true) (w.bytes-is ∙ w.encode-then-spends.ensures)
            | else-spends w ↦ rw (sym c.spends.ensures ∙ w.if-spends.false) w.bytes-is
          ];
    })
