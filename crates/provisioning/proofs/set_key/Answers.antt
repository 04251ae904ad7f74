-- `provisioning::set_key` meets its contract, an end each.
use Rattle.authentication.proofs.Finding.{signer_row, signer_below, signer_key, signer_none}
use Rattle.authentication.proofs.Judged.{asked_found, unfound, denial, grant}
use Rattle.laws.proofs.Flags.{granted, refuted}
use Rattle.unit.specs.declared.Refusal.{Refusal}
use Rattle.unit.proofs.Lines.{lines, accounts_legal_lem}
use Rattle.wire.specs.Shape.{request}
use native.Mathlib.Omega.{arith}
use Rattle.provisioning.proofs.Judging.{set_nowhere, set_unproved, key_set}
use Rattle.provisioning.proofs.set_key.Goals as goal

pub signed_by_owner-requires : goal.signed_by_owner-requires
signed_by_owner-requires c =
    (c.requires.0.formed, omega (arith, c.well_formed.1.0, c.requires.0.sized))

pub returns-in_err-signer : goal.returns-in_err-signer
returns-in_err-signer c =
    unfound c.args.u c.args.h.id _ Refusal.NotAuthenticated c.ok_or.ensures.value c.in_err-signer.was c.from_residual.ensures
    (λ e. set_nowhere c.args.u (request c.args.h c.args.additional.now) (signer_none c.signed_by_owner.ensures e))

pub returns-then-not-may_replace : goal.returns-then-not-may_replace
returns-then-not-may_replace c =
    let found = asked_found _ Refusal.NotAuthenticated c.ok_or.ensures.value c.in_ok-signer.was in
    denial c.args.u c.args.h.id Refusal.NotAuthenticated
    (set_unproved c.args.u (request c.args.h c.args.additional.now) (signer_row c.signed_by_owner.ensures found)
    (refuted c.may_replace.ensures c.if-not-may_replace.true))

pub key_at-key-requires : goal.key_at-key-requires
key_at-key-requires c =
    let found = asked_found _ Refusal.NotAuthenticated c.ok_or.ensures.value c.in_ok-signer.was in
    (accounts_legal_lem c.args.u.accounts (lines c.args.u c.requires.0.formed).accounts, signer_below c.signed_by_owner.ensures found)

pub used-requires : goal.used-requires
used-requires c =
    let found = asked_found _ Refusal.NotAuthenticated c.ok_or.ensures.value c.in_ok-signer.was in
    (accounts_legal_lem c.args.u.accounts (lines c.args.u c.requires.0.formed).accounts, signer_below c.signed_by_owner.ensures found)

pub returns : goal.returns
returns c =
    let found = asked_found _ Refusal.NotAuthenticated c.ok_or.ensures.value c.in_ok-signer.was in
    grant c.args.u c.args.h.id _ (signer_key c.signed_by_owner.ensures found) c.granted.ensures
    (key_set c.args.u (request c.args.h c.args.additional.now) (signer_row c.signed_by_owner.ensures found) c.key_at-key.ensures
    (granted c.may_replace.ensures c.if-not-may_replace.false) c.decrypted_key.ensures c.awaiting.ensures c.used.ensures)
