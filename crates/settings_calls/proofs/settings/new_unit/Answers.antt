-- `settings_calls::settings::new_unit` meets its contract: settings out of range fail one of their lines.
use Rattle.unit.proofs.Ends.{refused_completes, done_completes}
use mir.Facts.{to_z-of_z}
use Prim.Native.Nat.{ℕ}
use lib.IntN.{ℤ}
use mathlib.Core.Path.{◌≡◌, sym, ◌∙◌}
use mathlib.Core.Bool.{false}
use native.Mathlib.Omega.{arith}
use Rattle.laws.proofs.Flags.{fails, clash}
use Rattle.unit.proofs.Lines.{settings_lines, settings_legal_lem}
use Rattle.unit.specs.WellFormed.{settings_legal}
use Rattle.unit.specs.declared.Settings.{Settings}
use Rattle.settings_calls.specs.Settings.{new_unit}
use Rattle.settings_calls.proofs.settings.new_unit.Goals as goal

abbrev asked : ℤ → ℕ → ℕ → Settings
asked power components selectable = record { power = power; components = components; selectable = selectable }

pub returns-then-components : goal.returns-then-components
unfolding new_unit
returns-then-components c =
    let s = asked c.args.power c.args.components c.args.selectable in
    let no : settings_legal s ≡ false = fails _ (λ e. omega (arith, (settings_lines s e).components)) in
    rw no (refused_completes c.no_unit.ensures)

pub returns-then-selectable-gt1 : goal.returns-then-selectable-gt1
unfolding new_unit
returns-then-selectable-gt1 c =
    let s = asked c.args.power c.args.components c.args.selectable in
    let no : settings_legal s ≡ false = fails _ (λ e. omega (arith, (settings_lines s e).selectable)) in
    rw no (refused_completes c.no_unit-then-selectable-gt1.ensures)

pub returns-then-not-power_legal : goal.returns-then-not-power_legal
unfolding new_unit
returns-then-not-power_legal c =
    let s = asked c.args.power c.args.components c.args.selectable in
    let beyond = rw (to_z-of_z c.ranges.power) at (sym c.power_legal.ensures ∙ c.if-not-power_legal.true) in
    let no : settings_legal s ≡ false = fails _ (λ e. clash (settings_lines s e).power beyond) in
    rw no (refused_completes c.no_unit-then-not-power_legal.ensures)

pub returns : goal.returns
unfolding new_unit
returns c =
    let s = asked c.args.power c.args.components c.args.selectable in
    let kept = to_z-of_z c.ranges.power in
    let yes
    = settings_legal_lem s
    (record {
      power = rw kept at (sym c.power_legal.ensures ∙ c.if-not-power_legal.false);
      components = c.if-components.false;
      selectable = c.if-selectable-gt1.false;
    }) in
    rw yes (done_completes (rw (c.fresh.ensures, kept) at c.accept.ensures))
