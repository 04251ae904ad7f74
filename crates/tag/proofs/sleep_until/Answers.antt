-- `tag::sleep_until` meets its contract: the number for a unit that passes the guard, and else its refusal.
use mathlib.Core.Path.{refl, sym, ap, ◌∙◌}
use mathlib.Core.Bool.{false≢true}
use Rattle.std.specs.Prelude.{Err}
use Rattle.tag.proofs.Guards.{formed_passed, formed_stopped, stopped_with}
use Rattle.tag.proofs.sleep_until.Goals as goal

pub returns-in_err-formed : goal.returns-in_err-formed
returns-in_err-formed c =
    let (broken, same) = formed_stopped _ c.formed.ensures c.in_err-formed.was in
    record {
      until = λ formed. absurd (false≢true (sym broken ∙ formed));
      refused = λ e. stopped_with _ c.from_residual.ensures.1 ∙ ap Err same;
    }

pub soonest-requires : goal.soonest-requires
soonest-requires c = formed_passed _ c.formed.ensures c.in_ok-formed.was

pub returns : goal.returns
returns c =
    record {
      until = λ formed. (c.soonest.result, refl, c.soonest.ensures);
      refused = λ broken. absurd (false≢true (sym broken ∙ formed_passed _ c.formed.ensures c.in_ok-formed.was));
    }
