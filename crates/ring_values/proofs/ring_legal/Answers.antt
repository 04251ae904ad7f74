-- `ring_values::ring_legal` meets its contract, test by test.
use Rattle.laws.proofs.Flags.{granted, refuted}
use mathlib.Core.Path.{sym, ◌∙◌}
use Rattle.ring_values.proofs.RingValues.{legal_outside, legal_nothing, legal_volume, legal_stop, legal_none, legal_some}
use Rattle.ring_values.proofs.ring_legal.Goals as goal

pub returns-then-not-inside : goal.returns-then-not-inside
returns-then-not-inside c =
    sym (legal_outside c.args.s c.args.additional.now c.requires.1 (refuted c.inside.ensures c.if-not-inside.true))

pub returns-then-all_of_none : goal.returns-then-all_of_none
returns-then-all_of_none c =
    sym (legal_nothing c.args.s c.args.additional.now c.requires.1 (granted c.inside.ensures c.if-not-inside.false) (sym c.all_of_none.ensures ∙ c.if-all_of_none.true))

pub returns-then-additional-gt-HIGHEST_VOLUME : goal.returns-then-additional-gt-HIGHEST_VOLUME
returns-then-additional-gt-HIGHEST_VOLUME c =
    sym (legal_volume c.args.s c.args.additional.now c.requires.1 (granted c.inside.ensures c.if-not-inside.false) (sym c.all_of_none.ensures ∙ c.if-all_of_none.false) c.if-additional-gt-HIGHEST_VOLUME.true)

pub returns-then-ring-eq0 : goal.returns-then-ring-eq0
returns-then-ring-eq0 c =
    sym (legal_stop c.args.s c.args.additional.now c.requires.1 (granted c.inside.ensures c.if-not-inside.false) (sym c.all_of_none.ensures ∙ c.if-all_of_none.false) c.if-additional-gt-HIGHEST_VOLUME.false c.if-ring-eq0.true)

pub returns-then-timeout-lt1 : goal.returns-then-timeout-lt1
returns-then-timeout-lt1 c =
    sym (legal_none c.args.s c.args.additional.now c.requires.1 (granted c.inside.ensures c.if-not-inside.false) (sym c.all_of_none.ensures ∙ c.if-all_of_none.false) c.if-additional-gt-HIGHEST_VOLUME.false c.if-ring-eq0.false c.asked_timeout-timeout.ensures c.if-timeout-lt1.true)

pub returns : goal.returns
returns c =
    sym (legal_some c.args.s c.args.additional.now c.requires.1 (granted c.inside.ensures c.if-not-inside.false) (sym c.all_of_none.ensures ∙ c.if-all_of_none.false) c.if-additional-gt-HIGHEST_VOLUME.false c.if-ring-eq0.false c.asked_timeout-timeout.ensures c.if-timeout-lt1.false)
