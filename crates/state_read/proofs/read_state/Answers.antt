-- `state_read::read_state` meets its contract, an end each.
use Rattle.authentication.proofs.Finding.{signer_row, signer_below, signer_key, signer_none}
use Rattle.authentication.proofs.Judged.{asked_found, unfound, grant}
use Rattle.unit.proofs.Lines.{lines, accounts_legal_lem}
use Rattle.unit.specs.declared.Refusal.{Refusal}
use Rattle.wire.specs.Shape.{request}
use Rattle.state_read.proofs.Judging.{owned_ready, state_nowhere, state_read_lem, shown_all, shown_none}
use Rattle.state_read.proofs.read_state.Goals as goal

pub returns-in_err-signer : goal.returns-in_err-signer
returns-in_err-signer c =
    unfound c.args.u c.args.h.id _ Refusal.NotAuthenticated c.ok_or.ensures.value c.in_err-signer.was c.from_residual.ensures
    (λ e. state_nowhere c.args.u (request c.args.h c.args.additional.now) (signer_none c.used_key.ensures e))

pub owned_by-owned-requires : goal.owned_by-owned-requires
owned_by-owned-requires c =
    let found = asked_found _ Refusal.NotAuthenticated c.ok_or.ensures.value c.in_ok-signer.was in
    (accounts_legal_lem c.args.u.accounts (lines c.args.u c.requires.formed).accounts, signer_below c.used_key.ensures found)

pub owns-requires : goal.owns-requires
owns-requires c =
    let found = asked_found _ Refusal.NotAuthenticated c.ok_or.ensures.value c.in_ok-signer.was in
    owned_ready c.args.u.accounts c.in_ok-signer.signer.place c.owned_by-owned.ensures
    (accounts_legal_lem c.args.u.accounts (lines c.args.u c.requires.formed).accounts) (signer_below c.used_key.ensures found) (lines c.args.u c.requires.formed).owner

pub used-requires : goal.used-requires
used-requires c =
    let found = asked_found _ Refusal.NotAuthenticated c.ok_or.ensures.value c.in_ok-signer.was in
    let ready = owned_ready c.args.u.accounts c.in_ok-signer.signer.place c.owned_by-owned.ensures
    (accounts_legal_lem c.args.u.accounts (lines c.args.u c.requires.formed).accounts) (signer_below c.used_key.ensures found) (lines c.args.u c.requires.formed).owner in
    (ready.0.0, ready.1)

pub returns-in-Some : goal.returns-in-Some
returns-in-Some c =
    let found = asked_found _ Refusal.NotAuthenticated c.ok_or.ensures.value c.in_ok-signer.was in
    grant c.args.u c.args.h.id _ (signer_key c.used_key.ensures found) c.granted.ensures
    (rw c.state_of.ensures
    (state_read_lem c.args.u (request c.args.h c.args.additional.now) c.in_ok-signer.signer.place (signer_row c.used_key.ensures found)
    c.owned_by-owned.ensures c.owns.ensures c.state_bits-bits.ensures (shown_all c.args.u c.in-Some.i c.in-Some.ensures) c.used.ensures))

pub returns-in-None : goal.returns-in-None
returns-in-None c =
    let found = asked_found _ Refusal.NotAuthenticated c.ok_or.ensures.value c.in_ok-signer.was in
    grant c.args.u c.args.h.id _ (signer_key c.used_key.ensures found) c.granted-in-None.ensures
    (state_read_lem c.args.u (request c.args.h c.args.additional.now) c.in_ok-signer.signer.place (signer_row c.used_key.ensures found)
    c.owned_by-owned.ensures c.owns.ensures c.state_bits-bits.ensures (shown_none c.args.u c.in-None.ensures) c.used.ensures)
