-- `full_rounds::forward::full_round` makes the four columns of the next state.
use mathlib.Core.Path.{◌≡◌, sym, ◌∙◌}
use lib.ListN.{length}
use Rattle.full_rounds.proofs.Columns.{round_columns}
use borrow.Author.Rules.{rules}
use Rattle.full_rounds.proofs.forward.full_round.Goals as goal

pub returns : goal.returns
returns c =
    let a = c.args in
    let long : length a.s ≡ 16 = search rules in
    c.state_of.ensures
    ∙ rw (
      c.mixed_column.ensures,
      c.mixed_column-2.ensures,
      c.mixed_column-3.ensures,
      c.mixed_column-4.ensures,
    )
    (sym (round_columns a.s long a.keys.now a.round c.requires.round_in_bounds))
