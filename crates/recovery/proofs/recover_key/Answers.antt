-- `recovery::recover_key` meets its contract, an end each.
use mathlib.Core.Path.{sym, ◌∙◌}
use Rattle.authentication.proofs.Finding.{found_row, found_below, found_none}
use Rattle.authentication.proofs.Judged.{asked_found, unfound, denial, grant}
use Rattle.laws.proofs.Flags.{granted, refuted}
use Rattle.unit.specs.declared.Refusal.{Refusal}
use Rattle.unit.proofs.Lines.{lines, accounts_legal_lem}
use Rattle.wire.specs.Shape.{request}
use native.Mathlib.Omega.{arith}
use Rattle.recovery.proofs.Judging.{recover_nowhere, recover_unsigned, recover_unasked, key_recovered_lem}
use Rattle.recovery.proofs.recover_key.Goals as goal

pub owner_place-requires : goal.owner_place-requires
owner_place-requires c = (lines c.args.u c.requires.formed).owner

pub returns-in_err-place : goal.returns-in_err-place
returns-in_err-place c =
    unfound c.args.u c.args.h.id _ Refusal.NotAuthenticated c.ok_or.ensures.value c.in_err-place.was c.from_residual.ensures
    (λ e. recover_nowhere c.args.u (request c.args.h c.args.additional.now) (found_none c.owner_place.ensures e))

pub tagged-requires : goal.tagged-requires
tagged-requires c = omega (arith, c.well_formed.1.0, c.requires.sized)

pub returns-then-not-tagged : goal.returns-then-not-tagged
returns-then-not-tagged c =
    let found = asked_found _ Refusal.NotAuthenticated c.ok_or.ensures.value c.in_ok-place.was in
    denial c.args.u c.args.h.id Refusal.NotAuthenticated
    (recover_unsigned c.args.u (request c.args.h c.args.additional.now) (found_row c.owner_place.ensures found)
    (refuted (c.tagged.ensures _ c.derived_key-recovery.ensures) c.if-not-tagged.true))

pub returns-then-not-consents : goal.returns-then-not-consents
returns-then-not-consents c =
    let found = asked_found _ Refusal.NotAuthenticated c.ok_or.ensures.value c.in_ok-place.was in
    denial c.args.u c.args.h.id Refusal.NoConsent
    (recover_unasked c.args.u (request c.args.h c.args.additional.now) (found_row c.owner_place.ensures found)
    (granted (c.tagged.ensures _ c.derived_key-recovery.ensures) c.if-not-tagged.false)
    (refuted c.consents.ensures c.if-not-consents.true))

pub key_at-requires : goal.key_at-requires
key_at-requires c =
    let found = asked_found _ Refusal.NotAuthenticated c.ok_or.ensures.value c.in_ok-place.was in
    (accounts_legal_lem c.args.u.accounts (lines c.args.u c.requires.formed).accounts, found_below c.owner_place.ensures found)

pub returns : goal.returns
returns c =
    let found = asked_found _ Refusal.NotAuthenticated c.ok_or.ensures.value c.in_ok-place.was in
    grant c.args.u c.args.h.id _ c.derived_key-recovery.ensures c.granted.ensures
    (key_recovered_lem c.args.u (request c.args.h c.args.additional.now) (found_row c.owner_place.ensures found)
    (granted (c.tagged.ensures _ c.derived_key-recovery.ensures) c.if-not-tagged.false)
    (granted c.consents.ensures c.if-not-consents.false) c.key_at.ensures c.encrypted_key-data.ensures)
