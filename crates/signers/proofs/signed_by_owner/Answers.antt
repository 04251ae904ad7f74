-- `signers::signed_by_owner` meets its contract: there is no owner, or its key decides.
use mathlib.Core.Path.{◌≡◌, ap, sym, ◌∙◌}
use mathlib.Core.Bool.{true, false}
use mathlib.Core.List.{List, []}
use Prim.Native.Nat.{ℕ}
use lib.ListN.{get_or}
use Rattle.unit.specs.WellFormed.{held_keys}
use Rattle.unit.proofs.Lines.{lines, accounts_legal_lem}
use Rattle.authentication.specs.Judgement.{tagged, last_nonce, signed_by_owner}
use Rattle.authentication.proofs.Finding.{found_row, found_below, found_none, tried_signs, tried_fails}
use Rattle.primitives.specs.Standards.{keyed_by}
use Rattle.wire.specs.Shape.{request}
use Rattle.signers.proofs.signed_by_owner.Goals as goal

pub owner_place-requires : goal.owner_place-requires
owner_place-requires c = (lines c.args.u c.requires.0).owner

pub returns-in_err-place : goal.returns-in_err-place
unfolding signed_by_owner
returns-in_err-place c =
    let none-there = found_none c.owner_place.ensures c.in_err-place.was in
    rw c.from_residual.ensures (record { finds = record { row_is = rw none-there; within = tt }; ready_from = tt })

pub key_at-owner_key-requires : goal.key_at-owner_key-requires
key_at-owner_key-requires c =
    let u = c.args.u in
    (accounts_legal_lem u.accounts (lines u c.requires.0).accounts, found_below c.owner_place.ensures c.in_ok-place.was)

pub returns-in_err-key : goal.returns-in_err-key
unfolding signed_by_owner
returns-in_err-key c =
    let signs : tagged (get_or (held_keys c.args.u.accounts) c.in_ok-place.place []) (last_nonce c.args.u) (request c.args.h c.args.additional.now) ≡ false
    = ap (λ (k : List ℕ). tagged k (last_nonce c.args.u) (request c.args.h c.args.additional.now)) (sym c.key_at-owner_key.ensures)
    ∙ tried_fails c.tried.ensures c.in_err-key.was in
    let row = found_row c.owner_place.ensures c.in_ok-place.was in
    rw c.from_residual-in_err-key.ensures (record { finds = record { row_is = rw (row, signs); within = tt }; ready_from = tt })

pub returns : goal.returns
unfolding signed_by_owner
returns c =
    let (holds, made) = tried_signs c.tried.ensures c.in_ok-key.was in
    let signs : tagged (get_or (held_keys c.args.u.accounts) c.in_ok-place.place []) (last_nonce c.args.u) (request c.args.h c.args.additional.now) ≡ true
    = ap (λ (k : List ℕ). tagged k (last_nonce c.args.u) (request c.args.h c.args.additional.now)) (sym c.key_at-owner_key.ensures) ∙ holds in
    let place = c.owner_place.ensures in
    record {
      finds = record { row_is = rw (found_row place c.in_ok-place.was, signs); within = found_below place c.in_ok-place.was };
      ready_from = made ∙ ap keyed_by c.key_at-owner_key.ensures;
    }
