-- `parameter_read::read_parameters` meets its contract, an end each.
use Rattle.authentication.proofs.Finding.{signer_row, signer_below, signer_key, signer_none}
use Rattle.authentication.proofs.Judged.{asked_found, unfound, grant}
use Rattle.unit.specs.declared.Refusal.{Refusal}
use Rattle.unit.proofs.Lines.{lines, accounts_legal_lem}
use Rattle.wire.specs.Shape.{request}
use Rattle.parameter_read.proofs.Judging.{parameters_nowhere, parameters_read_lem}
use Rattle.parameter_read.proofs.read_parameters.Goals as goal

pub returns-in_err-signer : goal.returns-in_err-signer
returns-in_err-signer c =
    unfound c.args.u c.args.h.id _ Refusal.NotAuthenticated c.ok_or.ensures.value c.in_err-signer.was c.from_residual.ensures
    (λ e. parameters_nowhere c.args.u (request c.args.h c.args.additional.now) (signer_none c.used_key.ensures e))

pub key_at-key-requires : goal.key_at-key-requires
key_at-key-requires c =
    let found = asked_found _ Refusal.NotAuthenticated c.ok_or.ensures.value c.in_ok-signer.was in
    (accounts_legal_lem c.args.u.accounts (lines c.args.u c.requires.formed).accounts, signer_below c.used_key.ensures found)

pub plain-requires : goal.plain-requires
plain-requires c =
    (lines c.args.u c.requires.formed).settings.power

pub used-requires : goal.used-requires
used-requires c =
    let found = asked_found _ Refusal.NotAuthenticated c.ok_or.ensures.value c.in_ok-signer.was in
    (accounts_legal_lem c.args.u.accounts (lines c.args.u c.requires.formed).accounts, signer_below c.used_key.ensures found)

pub returns : goal.returns
returns c =
    let found = asked_found _ Refusal.NotAuthenticated c.ok_or.ensures.value c.in_ok-signer.was in
    grant c.args.u c.args.h.id _ (signer_key c.used_key.ensures found) c.granted.ensures
    (parameters_read_lem c.args.u (request c.args.h c.args.additional.now) (signer_row c.used_key.ensures found) c.key_at-key.ensures
    c.plain.ensures c.encrypt-block.ensures c.used.ensures)
