-- `session::closing::create` meets its contract: accepted settings print nothing, refused ones end the run.
use mathlib.Core.Path.{subst, ◌≡◌, refl, sym, ap, ◌∙◌}
use lib.IntN.{ℤ}
use mir.Syntax.{w32}
use mir.Val.{to_z, of_z}
use borrow.Author.Rules.{rules}
use native.Mathlib.Omega.{arith}
use native.Mathlib.Numerals.{add-one}
use Rattle.unit.specs.Outcome.{Completes}
use Rattle.unit.specs.Types.{Reply}
use Rattle.unit.specs.Refusals.{refusal_number}
use Rattle.settings_calls.specs.Settings.{new_unit}
use Rattle.session.specs.Feeding.{closed}
use Rattle.session.proofs.ClosedLines.{closes_fed, begun_by, begins_by}
use Rattle.notation.proofs.Placed.{puts_nothing}
use Rattle.printing.proofs.Texts.{length_refused}
use Rattle.session.proofs.closing.create.Goals as goal

pub returns-in-Ok : goal.returns-in-Ok
unfolding closed
returns-in-Ok c =
    let known = c.args in
    let ready = c.requires in
    let run = known.run in
    let called = c.new_unit-step in
    let u = called.result.unit in
    let kept : to_z w32 (of_z w32 run.power) ≡ run.power = search rules in
    let said = subst (λ (z : ℤ). Completes (new_unit z run.components known.selectable) u called.result.reply) kept called.ensures in
    let begun = begins_by (new_unit run.power run.components known.selectable) called.result.reply run.number said in
    closes_fed run.number run.unit (ap (λ (x : Reply). begun_by x u run.number) (sym c.in-Ok.is) ∙ begun)
    (record {
      state_is = rw (c.advance.ensures, ready.going, add-one);
      bounded = rw c.advance.ensures (record { numbered = omega (arith, ready.counted); within_kept = ready.bounded.within_kept });
      few = omega arith;
      puts = puts_nothing known.at known.out.now;
    })

pub returns-in-Err : goal.returns-in-Err
unfolding closed
returns-in-Err c =
    let known = c.args in
    let ready = c.requires in
    let run = known.run in
    let called = c.new_unit-step in
    let u = called.result.unit in
    let kept : to_z w32 (of_z w32 run.power) ≡ run.power = search rules in
    let said = subst (λ (z : ℤ). Completes (new_unit z run.components known.selectable) u called.result.reply) kept called.ensures in
    let begun = begins_by (new_unit run.power run.components known.selectable) called.result.reply run.number said in
    closes_fed run.number run.unit (ap (λ (x : Reply). begun_by x u run.number) (sym c.in-Err.is) ∙ begun)
    (record {
      state_is = refl;
      bounded = record { numbered = ready.bounded.numbered; within_kept = ready.bounded.within_kept };
      few = omega (arith, length_refused (refusal_number c.in-Err.refusal));
      puts = c.refused-written.ensures;
    })
