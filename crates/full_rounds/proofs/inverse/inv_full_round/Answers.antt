-- `full_rounds::inverse::inv_full_round` makes the four columns of the next state.
use mathlib.Core.Path.{◌≡◌, sym, ◌∙◌}
use lib.ListN.{length}
use Rattle.full_rounds.proofs.Columns.{inv_round_columns}
use borrow.Author.Rules.{rules}
use Rattle.full_rounds.proofs.inverse.inv_full_round.Goals as goal

pub returns : goal.returns
returns c = λ Nr w k inner few.
    let a = c.args in
    let long : length a.s ≡ 16 = search rules in
    c.state_of.ensures
    ∙ rw (
      c.unmixed_column.ensures,
      c.unmixed_column-2.ensures,
      c.unmixed_column-3.ensures,
      c.unmixed_column-4.ensures,
    )
    (sym (inv_round_columns a.s long Nr a.round w a.keys.now k inner few c.requires.round_in_bounds))
