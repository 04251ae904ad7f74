-- `well_formed::well_formed` meets its contract: each test is one of the unit's lines, and the last, on protection, decides.
use mathlib.Core.Bool.{true, ◌&&◌}
use mathlib.Core.Path.{◌≡◌, sym, ◌∙◌}
use native.Mathlib.Omega.{arith}
use lib.Dec.{leb}
use borrow.Author.Tests.{leb-true, le-leb}
use Rattle.laws.proofs.Flags.{granted, refuted, fails, agree, clash, both, and_left, and_right}
use Rattle.unit.proofs.Lines.{Lines, lines, formed, settings_lines, settings_legal_lem, accounts_lines, accounts_legal_lem}
use Rattle.unit.specs.declared.TagUnit.{TagUnit}
use Rattle.unit.specs.WellFormed.{identity_legal}
use Rattle.sizes.specs.Sizes.{full_consent, highest_battery}
use Rattle.well_formed.proofs.well_formed.Goals as goal

numbers_met : (u : TagUnit) → Lines u → leb u.clock.tenth 9 && (leb u.consent full_consent && leb u.battery highest_battery) ≡ true
numbers_met u l = both (le-leb _ _ l.tenth) (both (le-leb _ _ l.consent) (le-leb _ _ l.battery))

pub returns-then-not-settings_legal : goal.returns-then-not-settings_legal
returns-then-not-settings_legal c = sym (fails _ (λ e. clash (settings_legal_lem _ (lines _ e).settings) (refuted c.settings_legal.ensures c.if-not-settings_legal.true)))

pub returns-then-not-numbers_legal : goal.returns-then-not-numbers_legal
returns-then-not-numbers_legal c = sym (fails _ (λ e. clash (numbers_met _ (lines _ e)) (refuted c.numbers_legal.ensures c.if-not-numbers_legal.true)))

pub returns-then-not-accounts_legal : goal.returns-then-not-accounts_legal
returns-then-not-accounts_legal c = sym (fails _ (λ e. clash (accounts_legal_lem _ (lines _ e).accounts) (refuted c.accounts_legal.ensures c.if-not-accounts_legal.true)))

pub returns-then-not-owner_legal : goal.returns-then-not-owner_legal
returns-then-not-owner_legal c = sym (fails _ (λ e. clash (lines _ e).owner (refuted c.owner_legal.ensures c.if-not-owner_legal.true)))

pub returns-then-not-identities_legal : goal.returns-then-not-identities_legal
returns-then-not-identities_legal c = sym (fails _ (λ e. clash (both (lines _ e).identity (lines _ e).waiting) (refuted c.identities_legal.ensures c.if-not-identities_legal.true)))

pub returns-then-not-legal : goal.returns-then-not-legal
returns-then-not-legal c = sym (fails _ (λ e. clash (lines _ e).nonces (refuted c.legal.ensures c.if-not-legal.true)))

pub sound_legal-requires : goal.sound_legal-requires
sound_legal-requires c =
    omega (arith, (settings_lines _ (granted c.settings_legal.ensures c.if-not-settings_legal.false)).components)

pub returns-then-not-sound_legal : goal.returns-then-not-sound_legal
returns-then-not-sound_legal c = sym (fails _ (λ e. clash (lines _ e).sound (refuted c.sound_legal.ensures c.if-not-sound_legal.true)))

pub returns : goal.returns
returns c =
    let u = c.args.u in
    let most : leb u.clock.tenth 9 && (leb u.consent full_consent && leb u.battery highest_battery) ≡ true =
    granted c.numbers_legal.ensures c.if-not-numbers_legal.false in
    let keys : identity_legal u.identity u.accounts.owner && identity_legal u.waiting u.accounts.owner ≡ true =
    granted c.identities_legal.ensures c.if-not-identities_legal.false in
    let later = and_right (leb u.clock.tenth 9) _ most in
    c.protection_legal.ensures
    ∙ agree _ _
    (λ e.
    formed u
    (record {
      settings = settings_lines _ (granted c.settings_legal.ensures c.if-not-settings_legal.false);
      tenth = leb-true _ _ (and_left _ _ most);
      accounts = accounts_lines _ (granted c.accounts_legal.ensures c.if-not-accounts_legal.false);
      owner = granted c.owner_legal.ensures c.if-not-owner_legal.false;
      identity = and_left _ _ keys;
      waiting = and_right (identity_legal u.identity u.accounts.owner) _ keys;
      nonces = granted c.legal.ensures c.if-not-legal.false;
      sound = granted c.sound_legal.ensures c.if-not-sound_legal.false;
      protection = e;
      consent = leb-true _ _ (and_left _ _ later);
      battery = leb-true _ _ (and_right (leb u.consent full_consent) _ later);
    }))
    (λ e. (lines u e).protection)
