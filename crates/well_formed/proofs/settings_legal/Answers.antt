-- `well_formed::settings_legal` meets its contract: each test is one of the settings' lines. A signed field comes back from its bits
-- as it was.
use mathlib.Core.Path.{◌≡◌, sym}
use mir.Val.{to_z, of_z}
use mir.Syntax.{w32}
use native.Mathlib.Omega.{arith}
use borrow.Author.Tests.{leb-true, le-leb}
use Rattle.laws.proofs.Flags.{granted, refuted, fails, agree, clash}
use Rattle.unit.proofs.Lines.{settings_lines, settings_legal_lem}
use borrow.Author.Rules.{rules}
use Rattle.well_formed.proofs.settings_legal.Goals as goal

pub returns-then-not-power_legal : goal.returns-then-not-power_legal
returns-then-not-power_legal c =
    let s = c.args.s in
    let kept : to_z w32 (of_z w32 s.power) ≡ s.power = search rules in
    sym (fails _ (λ e. clash (settings_lines s e).power (rw kept at (refuted c.power_legal.ensures c.if-not-power_legal.true))))

pub returns-then-s-gt-MOST_COMPONENTS : goal.returns-then-s-gt-MOST_COMPONENTS
returns-then-s-gt-MOST_COMPONENTS c = sym (fails _ (λ e. omega (arith, (settings_lines _ e).components)))

pub returns : goal.returns
returns c =
    let s = c.args.s in
    let kept : to_z w32 (of_z w32 s.power) ≡ s.power = search rules in
    let power = rw kept at (granted c.power_legal.ensures c.if-not-power_legal.false) in
    agree _ _
    (λ e. settings_legal_lem s (record { power = power; components = c.if-s-gt-MOST_COMPONENTS.false; selectable = leb-true _ _ e }))
    (λ e. le-leb _ _ (settings_lines s e).selectable)
