-- `clearing::clear_key` meets its contract, an end each.
use Rattle.authentication.proofs.Finding.{signer_row, signer_key, signer_none}
use Rattle.authentication.proofs.Judged.{asked_found, unfound, denial, grant}
use Rattle.unit.specs.declared.Refusal.{Refusal}
use mathlib.Core.Path.{sym, ◌∙◌}
use Rattle.wire.specs.Shape.{request}
use Rattle.clearing.proofs.Judging.{clear_nowhere, clear_unproved, key_cleared_lem}
use Rattle.clearing.proofs.clear_key.Goals as goal

pub returns-in_err-signer : goal.returns-in_err-signer
returns-in_err-signer c =
    unfound c.args.u c.args.h.id _ Refusal.NotAuthenticated c.ok_or.ensures.value c.in_err-signer.was c.from_residual.ensures
    (λ e. clear_nowhere c.args.u (request c.args.h c.args.additional.now) (signer_none c.signed_by_owner.ensures e))

pub returns-then-not-proves : goal.returns-then-not-proves
returns-then-not-proves c =
    let found = asked_found _ Refusal.NotAuthenticated c.ok_or.ensures.value c.in_ok-signer.was in
    denial c.args.u c.args.h.id Refusal.NotAuthenticated
    (clear_unproved c.args.u (request c.args.h c.args.additional.now) (signer_row c.signed_by_owner.ensures found)
    (sym c.proves.ensures ∙ c.if-not-proves.true))

pub returns : goal.returns
returns c =
    let found = asked_found _ Refusal.NotAuthenticated c.ok_or.ensures.value c.in_ok-signer.was in
    grant c.args.u c.args.h.id _ (signer_key c.signed_by_owner.ensures found) c.granted.ensures
    (key_cleared_lem c.args.u (request c.args.h c.args.additional.now) (signer_row c.signed_by_owner.ensures found)
    (sym c.proves.ensures ∙ c.if-not-proves.false) c.cleared.ensures)
